-- Calls of a reader or a writer, one after the other.
use Rattle.std.proofs.Common.{◌≡◌, ◌∙◌, ℕ, zero, suc, ◌+◌, add-one, List, ◌++◌, take, drop, Option, Ok, inl, inr, ap, subst, refl, sym, arith, append_assoc, take-append-drop}
use Rattle.std.specs.Io.KnownBytes.{Appends}
use Rattle.std.proofs.KnownBytes.{Appends-trans}
use Rattle.cap_stream.specs.StreamCalls.{AllWent, Calls, ReportsWrite}
use Rattle.cap_stream.specs.Writing.{AppendsFront, AppendsSome, HasFailed}

-- a write took some more of the bytes
pub writes_more : (a b c : Option (List ℕ)) (bytes rest : List ℕ) (count : ℕ) → ((front : List ℕ) × (bytes ≡ front ++ rest) × Appends a b front) → Appends b c (take count rest)
    → (front : List ℕ) × (bytes ≡ front ++ drop count rest) × Appends a c front
writes_more a b c bytes rest count (front, parts, before) taken = (
  front ++ take count rest,
  parts ∙ ap (λ (r : List ℕ). front ++ r) (sym (take-append-drop count rest)) ∙ sym (append_assoc front (take count rest) (drop count rest)),
  Appends-trans a b c front (take count rest) before taken,
)

-- a proper prefix is a prefix
pub some_is_front : (a b : Option (List ℕ)) (bytes : List ℕ) → AppendsSome a b bytes → AppendsFront a b bytes
some_is_front a b bytes (front, rest, parts, more, wrote) = (front, rest, parts, wrote)

module _ {W : Type 0} (went failed : W → W → Type 0) where
  -- some calls and then some others
  pub calls_on : (m n : ℕ) (a b c : W) → Calls went m a b → Calls went n b c → (k : ℕ) × (k ≡ m + n) × Calls went k a c
  calls_on m zero a b c some same = (m, omega arith, subst (λ (w : W). Calls went m a w) same some)
  calls_on m (suc n) a b c some (before, calls, last) =
      let all = calls_on m n a b before some calls in
      (suc all.0, omega (arith, all.1), (before, all.2, last))

  pub went_on : (a b c : W) → AllWent went a b → AllWent went b c → AllWent went a c
  went_on a b c (m, some) (n, others) =
      let all = calls_on m n a b c some others in
      (all.0, all.2)

  pub failed_later : (a b c : W) → AllWent went a b → HasFailed went failed b c → HasFailed went failed a c
  failed_later a b c some (inl (before, calls, last)) = inl (before, went_on a b before some calls, last)
  failed_later a b c (m, some) (inr (n, most, others)) =
      let all = calls_on m n a b c some others in
      inr (all.0, omega (arith, most, all.1), all.2)

  pub one_call : (n : ℕ) (a b c : W) → Calls went n a b → went b c → Calls went (n + 1) a c
  one_call n a b c calls last = rw add-one (b, calls, last)

  -- a write that took some bytes
  pub write_went : (count : ℕ) (a b : W) → (count ≡ 0 → ⊥) → ReportsWrite went failed (Ok count) a b → went a b
  write_went zero a b some so = absurd (some refl)
  write_went (suc count) a b some so = so
