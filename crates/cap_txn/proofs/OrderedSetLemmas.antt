-- Where an item stands in a list in which each stands once.
use Rattle.std.proofs.Common.{◌≡◌, ℕ, zero, suc, ◌+◌, ◌-◌, ◌<◌, ◌==◌, ◌≤◌, Bool, true, false, cond, ◌||◌, Option, Some, None, List, [], ◌∷◌, ◌++◌, length, take, get_or, refl, sym, ap, ◌∙◌, arith, ◌⊎◌, inl, inr, Ordering}
use Rattle.std.specs.List.{list_any}
use Rattle.std.specs.Ordering.{eq_by_cmp}
use Rattle.std.specs.Cmp.{IsTotalOrder}
use Rattle.std.proofs.lemmas.Cmp.{eq_by_cmp_equiv}
use Rattle.cap_tree.specs.Tree.{Updates, get}
use Rattle.std.proofs.lemmas.List.{take-append-le}
use Rattle.cap_txn.specs.OrderedSet.{AreKnown, with_each, with_item}

-- a list with an item of this kind at a place has one
any-at : {X : Type 0} (p : X → Bool) (items : List X) (i : ℕ) (d : X) → i < length items → p (get_or items i d) ≡ true → list_any p items ≡ true
any-at p [] i d few is = absurd (omega arith)
any-at p (x ∷ xs) zero d few is = ap (λ (b : Bool). b || list_any p xs) is
any-at p (x ∷ xs) (suc i) d few is = elim (p x) as (λ b. (b || list_any p xs) ≡ true) [ true ↦ refl | false ↦ any-at p xs i d (omega arith) is ]

pub any-last : {X : Type 0} (p : X → Bool) (items : List X) (d : X) → false ≡ (length items == 0) → p (get_or items (length items - 1) d) ≡ true → list_any p items ≡ true
any-last p [] d some is = absurd (cc)
any-last p (x ∷ xs) d some is = any-at p (x ∷ xs) (length (x ∷ xs) - 1) d (omega arith) is

module _ {K : Type 0} (cmp : K → K → Ordering) (o : IsTotalOrder cmp) where
  -- keys that the order does not tell apart have the same
  get-equal : (places : List (K × ℕ)) (a b : K) → eq_by_cmp cmp a b ≡ true → get cmp places a ≡ get cmp places b
  get-equal [] a b t = refl
  get-equal (e ∷ es) a b t =
      ap (λ (c : Bool). cond c (Some e.1) (get cmp es a)) ((eq_by_cmp_equiv o).congr a b e.0 t)
      ∙ ap (λ (found : Option ℕ). cond (eq_by_cmp cmp b e.0) (Some e.1) found) (get-equal es a b t)

  -- an item with no place is not there
  pub none-there : (places : List (K × ℕ)) (n : ℕ) (items : List K) (item : K) → AreKnown cmp places n items → get cmp places item ≡ None → list_any (eq_by_cmp cmp item) items ≡ false
  none-there places n [] item known none = refl
  none-there places n (x ∷ xs) item known none =
      elim (eq_by_cmp cmp item x) as (λ b. eq_by_cmp cmp item x ≡ b → (b || list_any (eq_by_cmp cmp item) xs) ≡ false) [
        | true ↦ λ t. let clash : Some n ≡ None = sym known.0 ∙ sym (get-equal places item x t) ∙ none in absurd (cc)
        | false ↦ λ _. none-there places (n + 1) xs item known.1 none
      ] refl

  -- nor is one whose place is outside
  pub outside-there : (places : List (K × ℕ)) (n p : ℕ) (items : List K) (item : K) → AreKnown cmp places n items → get cmp places item ≡ Some p → (p < n) ⊎ (n + length items ≤ p)
      → list_any (eq_by_cmp cmp item) items ≡ false
  outside-there places n p [] item known at out = refl
  outside-there places n p (x ∷ xs) item known at out =
      elim (eq_by_cmp cmp item x) as (λ b. eq_by_cmp cmp item x ≡ b → (b || list_any (eq_by_cmp cmp item) xs) ≡ false) [
        | true ↦ λ t. let same : Some n ≡ Some p = sym known.0 ∙ sym (get-equal places item x t) ∙ at in let here : n ≡ p = cc in absurd (apart here out)
        | false ↦ λ _. outside-there places (n + 1) p xs item known.1 at (further out)
      ] refl
    where
      apart : n ≡ p → (p < n) ⊎ (n + length (x ∷ xs) ≤ p) → ⊥
      apart e (inl l) = omega arith
      apart e (inr l) = omega arith

      further : (p < n) ⊎ (n + length (x ∷ xs) ≤ p) → (p < n + 1) ⊎ (n + 1 + length xs ≤ p)
      further (inl l) = inl (omega arith)
      further (inr l) = inr (omega arith)

  -- and one whose place is within is there if it is the one at its place
  pub at-there : (places : List (K × ℕ)) (n p : ℕ) (items : List K) (i : ℕ) (item d : K) → AreKnown cmp places n items → get cmp places item ≡ Some p → p ≡ n + i → i < length items
      → list_any (eq_by_cmp cmp item) items ≡ eq_by_cmp cmp item (get_or items i d)
  at-there places n p [] i item d known at is few = absurd (omega arith)
  at-there places n p (x ∷ xs) zero item d known at is few =
      elim (eq_by_cmp cmp item x) as (λ b. (b || list_any (eq_by_cmp cmp item) xs) ≡ b) [
        | true ↦ refl
        | false ↦ outside-there places (n + 1) p xs item known.1 at (inl (omega arith))
      ]
  at-there places n p (x ∷ xs) (suc i) item d known at is few =
      elim (eq_by_cmp cmp item x) as (λ b. eq_by_cmp cmp item x ≡ b → (b || list_any (eq_by_cmp cmp item) xs) ≡ eq_by_cmp cmp item (get_or xs i d)) [
        | true ↦ λ t. let same : Some n ≡ Some p = sym known.0 ∙ sym (get-equal places item x t) ∙ at in let here : n ≡ p = cc in absurd (omega arith)
        | false ↦ λ _. at-there places (n + 1) p xs i item d known.1 at (omega arith) (omega arith)
      ] refl

  -- ---- one item more

  pub known-more : (places after : List (K × ℕ)) (n m : ℕ) (items : List K) (item : K) → AreKnown cmp places n items → list_any (eq_by_cmp cmp item) items ≡ false → Updates cmp places after item (Some m) → m ≡ n + length items
      → AreKnown cmp after n (items ++ item ∷ [])
  known-more places after n m [] item known none updates is =
      let self : eq_by_cmp cmp item item ≡ true = (eq_by_cmp_equiv o).refl item in
      let place : m ≡ n = omega arith in
      (updates item ∙ ap (λ (b : Bool). cond b (Some m) (get cmp places item)) self ∙ ap Some place, tt)
  known-more places after n m (x ∷ xs) item known none updates is =
      elim (eq_by_cmp cmp item x) as (λ b. eq_by_cmp cmp item x ≡ b → (b || list_any (eq_by_cmp cmp item) xs) ≡ false → AreKnown cmp after n (x ∷ xs ++ item ∷ [])) [
        | true ↦ λ _ all. absurd (cc)
        | false ↦ λ e rest. (
          updates x ∙ ap (λ (b : Bool). cond b (Some m) (get cmp places x)) e ∙ known.0,
          known-more places after (n + 1) m xs item known.1 rest updates (omega arith),
        )
      ] refl none

  -- ---- fewer items

  pub known-fewer : (places : List (K × ℕ)) (n m : ℕ) (items : List K) → AreKnown cmp places n items → AreKnown cmp places n (take m items)
  known-fewer places n zero items known = tt
  known-fewer places n (suc m) [] known = tt
  known-fewer places n (suc m) (x ∷ xs) known = (known.0, known-fewer places (n + 1) m xs known.1)

  -- ---- the items in front stay

  pub front-with_item : (n : ℕ) (items : List K) (item : K) → n ≤ length items → take n (with_item cmp items item) ≡ take n items
  front-with_item n items item few =
      elim (list_any (eq_by_cmp cmp item) items) as (λ b. take n (cond b items (items ++ item ∷ [])) ≡ take n items) [ true ↦ refl | false ↦ rw take-append-le ]

  longer : (n : ℕ) (items more : List K) → n ≤ length items → n ≤ length (items ++ more)
  longer n [] more few = omega arith
  longer zero (x ∷ xs) more few = omega arith
  longer (suc n) (x ∷ xs) more few = let l = longer n xs more (omega arith) in omega arith

  pub long-with_item : (n : ℕ) (items : List K) (item : K) → n ≤ length items → n ≤ length (with_item cmp items item)
  long-with_item n items item few = elim (list_any (eq_by_cmp cmp item) items) as (λ b. n ≤ length (cond b items (items ++ item ∷ []))) [ true ↦ few | false ↦ longer n items (item ∷ []) few ]

  front-each : (n : ℕ) (items more : List K) → n ≤ length items → take n (with_each cmp items more) ≡ take n items
  front-each n items [] few = refl
  front-each n items (x ∷ xs) few = front-each n (with_item cmp items x) xs (long-with_item n items x few) ∙ front-with_item n items x few

  take_all : (xs : List K) → take (length xs) xs ≡ xs
  take_all [] = refl
  take_all (x ∷ xs) = ap (λ (l : List K). x ∷ l) (take_all xs)

  -- the items that were there are those in front
  pub taken-back : (n : ℕ) (items more : List K) → n ≡ length items → take n (with_each cmp items more) ≡ items
  taken-back n items more is = front-each n items more (omega arith) ∙ ap (λ (m : ℕ). take m items) is ∙ take_all items
