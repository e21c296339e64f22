-- Where the reading of a header stops at a fault.
use Rattle.cap_codec.proofs.Common.{◌≡◌, ℕ, zero, suc, ◌+◌, ◌≤◌, ◌⊎◌, inl, inr, false, nat_lt, nat_le, ◌==◌, ◌&&◌, ◌||◌, List, [], ◌∷◌, ◌++◌, length, take, drop, replicate, position, None, refl, sym, subst, ◌∙◌, append_assoc, append-nil, arith, length-append, length-take, take-append-drop, take_at, le-ltb, lt-ltb, list_any, position_or_len, is_utf8, cases_Bool, and_cases, ltb-false, cases_lt, lt-leb, ltb-true, leb-false, eqb-true, list_any_none, fails_before_first, nil_from_length, get_or_past, get_or-replicate, length-replicate, length-take-le, IsUtf8-from_ascii, is_utf8-from_IsUtf8, BadHeader, BadName, varint_at, bytes_again, AreLow, are_low, low_front, bytes_spelled, is_set, is_zero, count_at, flags_at, name_at, header_at}
use Rattle.cap_codec.proofs.HeaderLemmas.{zero_at, no_zero_before, name_is}
use Rattle.cap_codec.proofs.SpelledBlob.{count_spelled}
use Rattle.cap_codec_laws.proofs.FaultParts.{IsWhole, Judged, Part, part, is_read, at_first, judged_behind, done, bind, bytes_judged}
use Rattle.cap_codec_laws.proofs.FaultFields.{varint_judged, varint_front}

-- ---- the count

count_judged : (completes : List ℕ → Type 0) → (more : List ℕ) × completes more → (total : ℕ) (bytes : List ℕ) → AreLow bytes → Judged completes count_at total bytes
unfolding count_at
count_judged completes whole total bytes low = judged_behind [] bytes low (varint_judged (whole.0, ([], rw append-nil whole.1)) total bytes low)
    (λ t others f failed. rw failed refl)
    (λ n front rest reads low'. elim (cases_Bool ((n == 0) || nat_lt 2000 n)) [
      | inl bad ↦ at_first total BadHeader front rest whole (inr (inl (n, varint_front n front reads, grind (arith, eqb-true, ltb-true)))) (λ t others. rw (reads.1 t others, bad) refl)
      | inr good ↦ is_read total n front rest (reads.0, λ t others. rw (reads.1 t others, good) refl)
    ])

-- ---- the flags

all_key : (count : ℕ) → 1 ≤ count → (more : List ℕ) × IsWhole (λ t bytes. flags_at t count bytes) more
unfolding flags_at
all_key zero some = absurd (omega arith)
all_key (suc n) some = let flags : List ℕ = replicate (suc n) 1 in (flags, (flags, (are_low flags (λ i. grind (arith, get_or-replicate, get_or_past, length-replicate)), λ t others. rw (bytes_again t (suc n) flags others (length-replicate (suc n) 1)) refl)))

flags_judged : (count : ℕ) (completes : List ℕ → Type 0) → (more : List ℕ) × completes more → (total : ℕ) (bytes : List ℕ) → AreLow bytes → Judged completes (λ t b. flags_at t count b) total bytes
unfolding flags_at
flags_judged count completes whole total bytes low = judged_behind [] bytes low (bytes_judged count total bytes low)
    (λ t others f failed. rw failed refl)
    (λ flags front rest reads low'. elim (cases_Bool (list_any is_set flags)) [
      | inl keyed ↦ is_read total flags front rest (reads.0, λ t others. rw (reads.1 t others, keyed) refl)
      | inr none ↦
          let (parts, long) = bytes_spelled 0 count (front ++ []) (flags, []) (reads.1 0 []) in
          at_first total BadHeader front rest whole (inr (inr (subst (λ (b : List ℕ). list_any is_set b ≡ false) (sym (simp append-nil at parts)) none))) (λ t others. rw (reads.1 t others, none) refl)
    ])

-- ---- the name

-- the name `t`
one_name : (more : List ℕ) × IsWhole name_at more
one_name =
    let utf8 = is_utf8-from_IsUtf8 (116 ∷ []) (IsUtf8-from_ascii (116 ∷ []) (λ i. grind arith)) in
    (116 ∷ 0 ∷ [], (116 ∷ [], ((omega arith, (omega arith, tt)), λ t others. name_is t (116 ∷ []) others (omega arith) refl ∙ rw utf8 refl)))

-- to the first zero byte, or there is none where it may be
name_judged : (completes : List ℕ → Type 0) → (more : List ℕ) × completes more → (total : ℕ) (bytes : List ℕ) → AreLow bytes → Judged completes name_at total bytes
unfolding name_at
name_judged completes whole total bytes low =
    let len = position_or_len is_zero (take 256 bytes) in
    elim (cases_lt len (length (take 256 bytes))) [
      | inl found ↦
          let name = take len bytes in
          let rest = drop (len + 1) bytes in
          let parts = zero_at 256 bytes found ∙ sym (append_assoc name (0 ∷ []) rest) in
          let reads = λ (t : ℕ) (others : List ℕ). name_is t name others (omega (arith, length-take len bytes, length-take 256 bytes)) (no_zero_before bytes len (rw (lt-ltb _ _ found) refl)) in
          rw parts (elim (cases_Bool (nat_lt 0 (length name) && is_utf8 name)) [
            | inl good ↦ is_read total name (name ++ 0 ∷ []) rest (low_front (name ++ 0 ∷ []) rest (subst AreLow parts low), λ t others. rw (append_assoc name (0 ∷ []) others) (reads t others ∙ rw good refl))
            | inr bad ↦
                let wrong : (name ≡ []) ⊎ (is_utf8 name ≡ false) = elim (and_cases (nat_lt 0 (length name)) (is_utf8 name) bad) [ inl none ↦ inl (nil_from_length name (omega (arith, ltb-false 0 (length name) none))) | inr other ↦ inr other ] in
                at_first total BadName (name ++ 0 ∷ []) rest whole (inl (name, refl, wrong)) (λ t others. rw (append_assoc name (0 ∷ []) others) (reads t others ∙ rw bad refl))
          ])
      | inr none ↦
          let nowhere : position is_zero (take 256 bytes) ≡ None = rw (le-ltb _ _ none) refl in
          elim (cases_Bool (nat_le (length bytes) 255)) [
            | inl short ↦ record { answer = rw (nowhere, short) (λ lasts. absurd cc) }
            | inr past ↦
                let long : length (take 256 bytes) ≡ 256 = length-take-le 256 bytes (omega (arith, leb-false (length bytes) 255 past)) in
                rw (sym (take-append-drop 256 bytes)) (at_first total BadName (take 256 bytes) (drop 256 bytes) whole (inr (long, list_any_none is_zero (take 256 bytes) (λ i d lt. fails_before_first is_zero (take 256 bytes) i d (omega (arith, none)))))
                (λ t others. rw (take_at (take 256 bytes) others 256 long, nowhere, lt-leb (length (take 256 bytes ++ others)) 255 (omega (arith, length-append (take 256 bytes) others))) refl))
          ]
    ]

-- ---- the header

pub header_part : Part header_at
unfolding header_at count_at varint_at
header_part = bind count_at _ (part (1 ∷ [], (1, ((omega arith, tt), λ t others. refl))) count_judged) (λ n (front, (low, reads)).
    let some = (count_spelled 0 (front ++ []) (n, []) (rw (append-nil front) low) (reads 0 [])).0 in
    bind _ _ (part (all_key n some) (flags_judged n)) (λ flags read. bind _ _ (part one_name name_judged) (λ name read'. done _)))
