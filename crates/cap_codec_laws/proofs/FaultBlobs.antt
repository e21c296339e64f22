-- Where the reading of changes, groups and a blob stops at a fault.
use Rattle.cap_codec.proofs.Common.{◌≡◌, ℕ, zero, suc, ◌≤◌, inl, inr, Bool, true, false, cond, ◌==◌, ◌||◌, List, [], ◌∷◌, ◌++◌, length, Ok, Err, refl, sym, ap, subst, ◌∙◌, append_assoc, append-nil, arith, length-append, cases_Bool, eqb-true, AreBytes, change_at, patch_at, is_operation, BlobFault, FaultKind, BadHeader, fault, place, bind_ok, err_is, AreLow, low_behind, low_front, wrong_kind, blob_at, is_cut, lasting, ended, kind_byte, one_as, part_as, Leads}
use Rattle.cap_codec.specs.declared.scan.Kind.{Kind}
use Rattle.cap_codec.specs.declared.scan.Kind.TheVariants as kinds
use Rattle.cap_codec.proofs.Looking.{either, leads_on, leads_longer, stops, ends, first_leads}
use Rattle.cap_codec.proofs.BlobAgain.{blob_again}
use Rattle.cap_codec.proofs.SpelledBlob.{blob_spelled, low_bytes}
use Rattle.cap_codec_laws.specs.FaultPlace.{IsFaultyPart, Begins, IsFaultAt}
use Rattle.cap_codec_laws.proofs.FaultParts.{Reader, Reads, Part, low_both, done, bind, choice, byte_part}
use Rattle.cap_codec_laws.proofs.FaultFields.{record_part}
use Rattle.cap_codec_laws.proofs.FaultHeaders.{header_part}

-- ---- changes

change_part : (A : Type 0) (kind : Kind) (flags : List Bool) (op : ℕ) → Part (λ t bytes. one_as A kind t flags op bytes)
unfolding change_at patch_at
change_part A kinds.Changes flags op = search (bind, done, choice, record_part, byte_part) depth 8
change_part A kinds.Patches flags op = search (bind, done, choice, record_part, byte_part)

module _ (A : Type 0) (kind : Kind) where
  -- ---- a change or a header

  -- behind its first byte: the columns of the changes that follow
  abbrev next_at : List Bool → ℕ → Reader (List Bool)
  next_at flags first total bytes = part_as A kind total flags (first ∷ bytes)

  abbrev is_next : ℕ → Bool
  is_next first = is_operation first || (first == kind_byte kind)

  next_part : (flags : List Bool) (first : ℕ) → is_next first ≡ true → Part (next_at flags first)
  next_part flags first known = choice (is_operation first)
      (λ operation. search (bind, done, change_part))
      (λ none. choice (first == kind_byte kind) (λ same. search (bind, done, header_part)) (λ other. absurd (cc (rw (none, other) at known))))

-- ---- a blob

module _ (A : Type 0) (bytes : List ℕ) (f : BlobFault) (stopped : lasting (blob_at {A = A} bytes) ≡ Err f) where
  found : (kind : FaultKind) (front part rest more : List ℕ) → bytes ≡ front ++ (part ++ rest) → IsFaultyPart kind part → AreLow (front ++ more) → ended (blob_at {A = A} (front ++ more)) ≡ Ok tt
      → ((others : List ℕ) → lasting (blob_at {A = A} (front ++ (part ++ others))) ≡ fault kind (place (length (front ++ (part ++ others))) (part ++ others))) → IsFaultAt A bytes f
  unfolding IsFaultAt
  found kind front part rest more parts is low end stuck =
      let (blob, read, ok) = bind_ok (blob_at {A = A} (front ++ more)) (λ b. Ok tt) tt end in
      let never : Begins A (front ++ part) → ⊥ = λ (others, other, so). let again = blob_again other (front ++ (part ++ others)) (rw (append_assoc front part others) at so) in absurd (grind (arith, again, stuck others)) in
      subst (IsFaultAt A bytes) (err_is {A = Unit {0}} _ f (sym (stuck rest) ∙ rw parts at stopped))
      (front, part, rest, parts, omega (arith, length-append front (part ++ rest)), is, (more, blob, blob_spelled (front ++ more) blob low read), never)

  module _ (kind : Kind) (low : AreLow bytes) where
    -- behind a change or a header
    abbrev FoundBehind : ℕ → Type 0
    FoundBehind most = (before rest : List ℕ) (flags : List Bool) → bytes ≡ before ++ rest → length rest ≤ most → Leads A kind before [] flags → IsFaultAt A bytes f

    -- in a change or a header with this first byte
    next_found : (most : ℕ) (before rest : List ℕ) (flags : List Bool) (first : ℕ) → bytes ≡ before ++ first ∷ rest → length rest ≤ most → is_next A kind first ≡ true
        → ((front : List ℕ) → Leads A kind (before ++ first ∷ front) (first ∷ front) flags) → FoundBehind most → IsFaultAt A bytes f
    next_found most before rest flags first parts le known leads others =
        let low' = low_behind bytes before (first ∷ rest) parts low in
        let judged = (next_part A kind flags first known).judged (λ more whole. whole) (length bytes) rest low'.1 in
        let on : (columns : List Bool) (front : List ℕ) → Reads (next_at A kind flags first) columns front → Leads A kind (before ++ first ∷ front) [] columns = λ columns front reads.
        leads_on A kind (before ++ first ∷ front) (first ∷ front) [] flags columns (leads front) (λ more. let total = length ((before ++ first ∷ front) ++ more) in reads.1 total more) in
        elim (either (next_at A kind flags first (length bytes) rest)) [
          | inl (x, read) ↦
              let (front, is, reads) = rw read at judged.answer in
              others (before ++ first ∷ front) x.1 x.0 (parts ∙ simp (is, append_assoc) refl) (omega (arith, ap length is, length-append front x.1)) (on x.0 front reads)
          | inr (g, read) ↦
              let here : lasting {X = Unit {0}} (Err g) ≡ Err f = sym (stops A kind bytes (first ∷ rest) flags g (rw parts (leads rest)) (read)) ∙ stopped in
              let lasts : is_cut g.kind ≡ false = grind (arith, here) in
              let (front, part, rest', is, faulty, (more, (columns, reads)), stuck) = (rw read at judged.answer) lasts in
              let apart = λ (more : List ℕ). append_assoc before (first ∷ front) more in
              found g.kind (before ++ first ∷ front) part rest' more (parts ∙ ap (λ (b : List ℕ). before ++ first ∷ b) is ∙ sym (apart (part ++ rest'))) faulty
              (rw (apart more) (low_both before (first ∷ (front ++ more)) (low_front before (first ∷ rest) (subst AreLow parts low)) (low'.0, reads.0)))
              (rw (apart more) (ends A kind _ columns (on columns (front ++ more) reads)))
              (λ behind.
              let all = before ++ first ∷ (front ++ (part ++ behind)) in
              let last = stops A kind all (first ∷ (front ++ (part ++ behind))) flags (record { at = place (length all) (part ++ behind); kind = g.kind }) (leads (front ++ (part ++ behind))) (stuck (length all) behind) in
              rw (apart (part ++ behind)) (last ∙ rw lasts refl))
        ]

    all_found : (most : ℕ) → FoundBehind most
    all_found most before [] flags parts le leads = let none = ends A kind before flags leads in let all = rw (parts, append-nil) at stopped in absurd (grind (arith, none, all))
    all_found zero before (first ∷ rest) flags parts le leads = absurd (omega arith)
    all_found (suc most) before (first ∷ rest) flags parts le leads =
        let here = λ (front : List ℕ). leads_longer A kind before [] (first ∷ front) flags leads in
        elim (cases_Bool (is_next A kind first)) [
          | inl known ↦ next_found most before rest flags first parts (omega arith) known here (all_found most)
          | inr other ↦ found (wrong_kind first 0).kind before (first ∷ []) rest [] parts (grind (arith, other)) (rw (append-nil before) (low_front before (first ∷ rest) (subst AreLow parts low))) (rw (append-nil before) (ends A kind before flags leads))
              (λ more.
              let stuck = stops A kind (before ++ first ∷ more) (first ∷ more) flags (wrong_kind first (place (length (before ++ first ∷ more)) (first ∷ more))) (here more) (grind (arith, other)) in grind (arith, stuck))
        ]

pub fault_placed : (A : Type 0) (bytes : List ℕ) (f : BlobFault) → AreBytes bytes → lasting (blob_at {A = A} bytes) ≡ Err f → IsFaultAt A bytes f
unfolding blob_at
fault_placed A [] f are stopped = absurd cc
fault_placed A (first ∷ bytes) f are stopped =
    let low = low_bytes (first ∷ bytes) are in
    let kind = cond (first == 0x54) kinds.Changes kinds.Patches in
    elim (cases_Bool (first == kind_byte kind)) [
      | inl same ↦ next_found A (first ∷ bytes) f stopped kind low (length bytes) [] bytes [] first refl (omega arith) (grind (arith, same)) (λ front. first_leads A kind (first ∷ front) (omega arith) (eqb-true first (kind_byte kind) same))
          (all_found A (first ∷ bytes) f stopped kind low (length bytes))
      | inr other ↦ found A (first ∷ bytes) f stopped BadHeader [] (first ∷ []) bytes [] refl (inl (first, refl, grind (arith, other))) tt refl (λ others. grind (arith, other))
    ]
