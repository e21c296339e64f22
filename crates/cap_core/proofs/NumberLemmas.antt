-- Sessions under their numbers, among the numbers that were given.
use Rattle.std.proofs.lemmas.List.Elements.{filter-append}
pub use Rattle.std.proofs.lemmas.Bool.{eqb-false as unequal_numbers, eqb-true as equal_numbers}
use Rattle.std.proofs.lemmas.Bool.Decides.{nat_tests}
use Rattle.std.proofs.Common.{◌≡◌, ℕ, suc, zero, ◌+◌, ◌<◌, ◌≤◌, Bool, true, false, cond, Some, None, List, [], ◌∷◌, ◌++◌, map, refl, sym, ap, ◌∙◌, arith, nat_eq, add-zero}
use Rattle.std.specs.Prelude.{filter}
use Rattle.std.specs.List.{range_with_len}
use Rattle.std.specs.Map.{lookup}
use Rattle.cap_session.specs.Session.{SessionState}
use Rattle.cap_session.specs.Sessions.{with_session, without_session}

-- ---- lists under numbers

range-push : (a n : ℕ) → range_with_len a (suc n) ≡ range_with_len a n ++ (a + n) ∷ []
range-push a zero = ap (λ k. k ∷ []) (sym (add-zero a))
range-push a (suc n) = let same : (a + 1) + n ≡ a + suc n = omega arith in ap (λ ks. a ∷ ks) (range-push (a + 1) n ∙ ap (λ k. range_with_len (a + 1) n ++ k ∷ []) same)

pub same_number : (n : ℕ) → nat_eq n n ≡ true
same_number n = grind (arith, nat_tests)

-- the numbers from a on that pass
abbrev pub passing : (ℕ → Bool) → ℕ → ℕ → List ℕ
passing p a n = filter p (range_with_len a n)

pub passing-push : (p : ℕ → Bool) (n : ℕ) → passing p 1 (suc n) ≡ passing p 1 n ++ cond (p (1 + n)) ((1 + n) ∷ []) []
passing-push p n = ap (filter p) (range-push 1 n) ∙ filter-append p (range_with_len 1 n) ((1 + n) ∷ [])

module _ {X : Type 0} where
  -- what there is of each of these numbers
  abbrev pub numbered : (ℕ → X) → List ℕ → List (ℕ × X)
  numbered f numbers = map (λ k. (k, f k)) numbers

  module _ (p : ℕ → Bool) where
    pub lookup-passing : (f : ℕ → X) (a n number : ℕ) (x : X) → lookup (nat_eq number) (numbered f (passing p a n)) ≡ Some x → (number < a + n) × (x ≡ f number)
    lookup-passing f a zero number x is = cc
    lookup-passing f a (suc n) number x is = grind (arith, nat_tests, lookup-passing f (a + 1) n number x)

    pub lookup-beyond : (f : ℕ → X) (a n number : ℕ) → a + n ≤ number → lookup (nat_eq number) (numbered f (passing p a n)) ≡ None
    lookup-beyond f a zero number le = refl
    lookup-beyond f a (suc n) number le = grind (arith, nat_tests, lookup-beyond f (a + 1) n number)

    passing-same : (f g : ℕ → X) (q : ℕ → Bool) (a n : ℕ) → ((j : ℕ) → a ≤ j → (f j ≡ g j) × (p j ≡ q j)) → numbered f (passing p a n) ≡ numbered g (filter q (range_with_len a n))
    passing-same f g q a zero same = refl
    passing-same f g q a (suc n) same =
        let here = same a (omega arith) in
        let later = passing-same f g q (a + 1) n (λ j le. same j (omega arith)) in
        grind arith

module _ {A : Type 0} (p : ℕ → Bool) where
  pub with-passing : (f g : ℕ → SessionState A) (a n number : ℕ) (new : SessionState A) → new ≡ g number → ((j : ℕ) → (j ≡ number → ⊥) → f j ≡ g j)
      → with_session (numbered f (passing p a n)) number new ≡ numbered g (passing p a n)
  with-passing f g a zero number new is others = refl
  with-passing f g a (suc n) number new is others =
      let later = with-passing f g (a + 1) n number new is others in
      let here = λ (t : nat_eq number a ≡ true). passing-same p f g p (a + 1) n (λ j le. (others j (λ e. let at = equal_numbers number a t in omega arith), refl)) in
      let apart = λ (t : nat_eq number a ≡ false). others a (λ e. unequal_numbers number a t (sym e)) in
      grind (arith, equal_numbers number a)

  pub without-passing : (q : ℕ → Bool) (f g : ℕ → SessionState A) (a n number : ℕ) → q number ≡ false → ((j : ℕ) → (j ≡ number → ⊥) → (f j ≡ g j) × (p j ≡ q j))
      → without_session (numbered f (passing p a n)) number ≡ numbered g (filter q (range_with_len a n))
  without-passing q f g a zero number gone others = refl
  without-passing q f g a (suc n) number gone others =
      let later = without-passing q f g (a + 1) n number gone others in
      let here = λ (t : nat_eq number a ≡ true). passing-same p f g q (a + 1) n (λ j le. others j (λ e. let at = equal_numbers number a t in omega arith)) in
      let apart = λ (t : nat_eq number a ≡ false). others a (λ e. unequal_numbers number a t (sym e)) in
      grind (arith, equal_numbers number a)
