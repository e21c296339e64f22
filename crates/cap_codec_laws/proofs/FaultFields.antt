-- Where the reading of a field, a record or a change stops at a fault.
use Rattle.cap_codec.proofs.Common.{◌≡◌, ℕ, zero, suc, ◌+◌, ◌-◌, ◌*◌, ◌≤◌, ◌⊎◌, inl, inr, false, not, nat_lt, ◌==◌, ◌&&◌, ◌||◌, List, [], ◌∷◌, ◌++◌, length, Option, Some, None, Err, refl, sym, subst, append_assoc, ap, arith, append-nil, AllByRecursion, is_utf8, cases_Bool, ltb-true, ltb-false, eqb-true, eqb-false, IsUtf8-nil, BlobFault, BadVarint, BadField, Real, BadText, BadRecord, sized_at, text_at, ◌>>=◌, fault, place, byte_at, varint_from, varint_at, varint_bytes, chosen, varint_again, sized_again, text_again, AreLow, low_front, varint_spelled, sized_spelled, FieldRequirement, allows, content_at, typed_at, field_at, record_at, is_cut}
use Rattle.std.specs.Int.{w64, from_be_bytes, cast_signed}
use Rattle.cap_value.specs.declared.value.Value.{Value}
use Rattle.cap_value.specs.declared.value.Value.TheVariants.{Null, Int, Text, Blob}
use Rattle.cap_changes.specs.declared.field_requirement.FieldRequirement.TheVariants as required
use Rattle.cap_codec.proofs.Looking.{either}
use Rattle.cap_codec_laws.proofs.FaultParts.{Reader, Reads, IsWhole, Judged, Part, is_read, at_first, low_both, judged_behind, done, bind, bytes_judged}

-- ---- numbers

-- it stops at a first group of zeros, or at so many groups that are not the last
number_stops : (total at read high : ℕ) (bytes : List ℕ) (f : BlobFault) → read ≤ 4 → is_cut f.kind ≡ false → varint_from total at read high bytes ≡ Err f
    → (part rest : List ℕ) × (f.kind ≡ BadVarint) × (bytes ≡ part ++ rest) × (((read ≡ 0) × (part ≡ 128 ∷ [])) ⊎ ((length part + read ≡ 5) × AllByRecursion (λ byte. 128 ≤ byte) part)) × ((t p : ℕ) (others : List ℕ) → varint_from t p read high (part ++ others) ≡ fault BadVarint p)
number_stops total at read high [] f le lasts e = absurd cc
number_stops total at read high (byte ∷ bytes) f le lasts e = elim (chosen (nat_lt byte 128) _ _ _ e) [
  | inl (last, h) ↦ absurd cc
  | inr (goes_on, h) ↦ elim (chosen ((read == 4) || (read == 0) && (byte == 128)) _ _ _ h) [
    | inl (bad, is) ↦ (byte ∷ [], bytes, grind (arith, is), refl, grind (arith, eqb-true, ltb-false), λ t p others. rw (goes_on, bad) refl)
    | inr (good, is) ↦
        let (part, rest, same, parts, bad, fails) = number_stops total at (read + 1) (high * 128 + (byte - 128)) bytes f (grind (arith, eqb-false)) lasts is in
        (byte ∷ part, rest, same, ap (λ (b : List ℕ). byte ∷ b) parts, grind (arith, ltb-false, bad), λ t p others. rw (goes_on, good) (fails t p others))
  ]
]

pub varint_judged : {completes : List ℕ → Type 0} → (more : List ℕ) × completes more → (total : ℕ) (bytes : List ℕ) → AreLow bytes → Judged completes varint_at total bytes
unfolding varint_at
varint_judged whole total bytes low = elim (either (varint_at total bytes)) [
  | inl (n, read) ↦
      let (small, parts) = varint_spelled total bytes n low read in
      rw parts (is_read total n.0 (varint_bytes n.0) n.1 (low_front (varint_bytes n.0) n.1 (subst AreLow parts low), λ t others. varint_again t n.0 others small))
  | inr (f, read) ↦ record {
    answer = rw read (λ lasts.
        let (part, rest, same, parts, bad, fails) = number_stops total (place total bytes) 0 0 bytes f (omega arith) lasts read in
        rw same ([], part, rest, parts, grind (arith, bad), whole, λ t others. fails t (place t (part ++ others)) others));
  }
]

pub varint_front : (n : ℕ) (front : List ℕ) → Reads varint_at n front → front ≡ varint_bytes n
varint_front n front (low, reads) = let (small, parts) = varint_spelled 0 (front ++ []) (n, []) (rw append-nil low) (reads 0 []) in simp append-nil at parts

-- ---- texts and blobs

-- behind this type byte
abbrev sized : ℕ → Reader (List ℕ)
sized kind t bytes = sized_at t (place t (kind ∷ bytes)) bytes

module _ {X : Type 0} {completes : List ℕ → Type 0} {read : Reader X} (kind : ℕ) (whole : (more : List ℕ) × completes more) (empty : completes (kind ∷ 0 ∷ []))
    (go : (t : ℕ) (bytes : List ℕ) (f : BlobFault) → sized kind t bytes ≡ Err f → read t (kind ∷ bytes) ≡ Err f) where
  -- it stops in the length, or with the type byte and the length, or behind them
  sized_judged : (total : ℕ) (bytes : List ℕ) → AreLow bytes → ((text front rest : List ℕ) → Reads (sized kind) text front → Judged completes read total (kind ∷ (front ++ rest))) → Judged completes read total (kind ∷ bytes)
  unfolding sized_at
  sized_judged total bytes low next = judged_behind (kind ∷ []) bytes low (varint_judged (0 ∷ [], ([], empty)) total bytes low)
      (λ t others f failed. go t others f (rw failed refl))
      (λ count front rest reads low'. elim (cases_Bool (nat_lt 1000000000 count)) [
        | inl large ↦ at_first total BadField (kind ∷ front) rest whole (inr (kind, count, ap (λ (b : List ℕ). kind ∷ b) (varint_front count front reads), ltb-true 1000000000 count large))
            (λ t others. go t (front ++ others) _ (rw (reads.1 t others, large) refl))
        | inr fits ↦ judged_behind (kind ∷ front) rest low' (bytes_judged count total rest low')
            (λ t others f failed. go t (front ++ others) f (rw (reads.1 t others, fits) failed))
            (λ text behind rest' reads' low''. rw (sym (append_assoc front behind rest'))
            (next text (front ++ behind) rest' (low_both front behind reads.0 reads'.0, λ t others. rw (append_assoc front behind others, reads.1 t (behind ++ others), fits) (reads'.1 t others))))
      ])

module _ (A : Type 0) (requirement : FieldRequirement) where
  -- ---- fields

  -- a field whose type byte has to be there
  abbrev present : Reader (Option (Value A))
  present total bytes = byte_at total bytes >>= (λ kind. typed_at total (place total bytes) requirement kind.0 kind.1)

  -- a blob without bytes
  empty_blob : not (allows requirement 4) ≡ false → IsWhole present (4 ∷ 0 ∷ [])
  unfolding content_at varint_bytes
  empty_blob allowed = (Some (Blob []), ((omega arith, (omega arith, tt)), λ t others. rw (allowed, sized_again t (place t (4 ∷ 0 ∷ others)) [] others (omega arith)) refl))

  module _ {completes : List ℕ → Type 0} (complete : (more : List ℕ) → IsWhole present more → completes more) (whole : (more : List ℕ) × completes more) (total : ℕ) where
    content_judged : (kind : ℕ) (bytes : List ℕ) → nat_lt 5 kind ≡ false → (kind == 2) ≡ false → not (allows requirement kind) ≡ false → AreLow (kind ∷ bytes) → Judged completes present total (kind ∷ bytes)
    unfolding content_at text_at varint_bytes
    content_judged zero bytes known no_real allowed low = is_read total None (0 ∷ []) bytes ((low.0, tt), λ t others. rw allowed refl)
    content_judged (suc zero) bytes known no_real allowed low = judged_behind (1 ∷ []) bytes low.1 (bytes_judged 8 total bytes low.1)
        (λ t others f failed. rw (allowed, failed) refl)
        (λ n front rest reads low'. is_read total (Some (Int (cast_signed w64 (from_be_bytes w64 n)))) (1 ∷ front) rest ((low.0, reads.0), λ t others. rw (allowed, reads.1 t others) refl))
    content_judged (suc (suc (suc zero))) bytes known no_real allowed low =
        sized_judged 3 whole (complete (3 ∷ 0 ∷ []) (Some (Text []), ((omega arith, (omega arith, tt)), λ t others. rw (allowed, text_again t (place t (3 ∷ 0 ∷ others)) [] others IsUtf8-nil (omega arith)) refl)))
        (λ t others f failed. rw (allowed, failed) refl) total bytes low.1 (λ text front rest reads. elim (cases_Bool (is_utf8 text)) [
          | inl utf8 ↦ is_read total (Some (Text text)) (3 ∷ front) rest ((low.0, reads.0), λ t others. rw (allowed, reads.1 t others, utf8) refl)
          | inr other ↦
              let (small, sized) = sized_spelled 0 _ (front ++ []) (text, []) (rw append-nil reads.0) (reads.1 0 []) in
              at_first total BadText (3 ∷ front) rest whole (text, ap (λ (b : List ℕ). 3 ∷ b) (simp append-nil at sized), other) (λ t others. rw (allowed, reads.1 t others, other) refl)
        ])
    content_judged (suc (suc (suc (suc zero)))) bytes known no_real allowed low =
        sized_judged 4 whole (complete (4 ∷ 0 ∷ []) (empty_blob allowed)) (λ t others f failed. rw (allowed, failed) refl) total bytes low.1 (λ blob front rest reads.
        is_read total (Some (Blob blob)) (4 ∷ front) rest ((low.0, reads.0), λ t others. rw (allowed, reads.1 t others) refl))
    content_judged (suc (suc (suc (suc (suc zero))))) bytes known no_real allowed low = is_read total (Some Null) (5 ∷ []) bytes ((low.0, tt), λ t others. rw allowed refl)
    content_judged kind bytes known no_real allowed low = absurd (grind arith)

    present_judged : (bytes : List ℕ) → AreLow bytes → Judged completes present total bytes
    present_judged [] low = record { answer = λ lasts. absurd cc }
    present_judged (kind ∷ bytes) low = elim (cases_Bool (kind == 2)) [
      | inl real ↦ at_first total Real (kind ∷ []) bytes whole (ap (λ (k : ℕ). k ∷ []) (eqb-true kind 2 real)) (λ t others. rw real refl)
      | inr no_real ↦ elim (cases_Bool (nat_lt 5 kind)) [
        | inl unknown ↦ at_first total BadField (kind ∷ []) bytes whole (inl (kind, refl, ltb-true 5 kind unknown)) (λ t others. rw (no_real, unknown) refl)
        | inr known ↦ elim (cases_Bool (not (allows requirement kind))) [
          | inl other ↦ at_first total BadRecord (kind ∷ []) bytes whole (kind, refl, ltb-false 5 kind known) (λ t others. rw (no_real, known, other) refl)
          | inr allowed ↦ content_judged kind bytes known no_real allowed low
        ]
      ]
    ]

  present_part : (more : List ℕ) × IsWhole present more → Part present
  present_part whole = record { whole = whole; judged = λ complete. present_judged complete (whole.0, complete whole.0 whole.1) }

module _ (A : Type 0) where
  field_part : (requirement : FieldRequirement) → Part (λ t bytes. field_at {A = A} t requirement bytes)
  unfolding field_at content_at
  field_part required.Omitted = done None
  field_part required.Key = present_part A required.Key (4 ∷ 0 ∷ [], empty_blob A required.Key refl)
  field_part required.Defined = present_part A required.Defined (5 ∷ [], (Some Null, ((omega arith, tt), λ t others. refl)))
  field_part requirement = present_part A requirement (0 ∷ [], (None, ((omega arith, tt), λ t others. refl)))

  -- ---- records

  pub record_part : (requirements : List FieldRequirement) → Part (λ t bytes. record_at {A = A} t requirements bytes)
  unfolding record_at
  record_part [] = done []
  record_part (requirement ∷ requirements) = bind _ _ (field_part requirement) (λ field is. bind _ _ (record_part requirements) (λ others are. done _))
