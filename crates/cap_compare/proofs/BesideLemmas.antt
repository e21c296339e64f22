-- Two merged lists of entries: the first key of either, and the values at a key.
use Rattle.std.proofs.Common.{◌≡◌, true, false, cond, Option, Some, None, List, [], ◌∷◌, drop, refl, sym, ap, ap₂, subst, ◌∙◌}
use Rattle.std.specs.Prelude.{fold}
use Rattle.std.specs.declared.cmp.Ordering.{Ordering}
use Rattle.std.specs.declared.cmp.Ordering.TheVariants.{Less, Equal, Greater}
use Rattle.std.specs.Ordering.{is_eq, eq_by_cmp}
use Rattle.std.specs.Cmp.{IsTotalOrder, eq_by_cmp_equiv, Equal-is}
use Rattle.std.specs.Option.{option_map}
use Rattle.std.specs.List.{AllByRecursion}
use Rattle.std.specs.List.Sorted.{IsStrictlySortedBy}
use Rattle.std.specs.Map.{keys_of}
use Rattle.std.specs.BTreeMap.{is_at}
use Rattle.cap_tree.specs.Tree.{IsOrdered, get, put_entry}
use Rattle.cap_compare.specs.Beside.{first_of, both_at, alone, put_beside, beside}
use Rattle.cap_tree.proofs.EntryLemmas.{Each, get-before, ordered_put, put_entry-Updates, reversed}

turn : {K : Type 0} {P Q : K → Type 0} → ((k : K) → P k → Q k) → (ks : List K) → AllByRecursion P ks → AllByRecursion Q ks
turn f [] h = tt
turn f (k ∷ ks) h = (f k h.0, turn f ks h.1)

module _ {K X : Type 0} (cmp : K → K → Ordering) (o : IsTotalOrder cmp) where
  get-same : (es : List (K × X)) (q k : K) → cmp q k ≡ Equal → get cmp es q ≡ get cmp es k
  get-same [] q k same = refl
  get-same (e ∷ es) q k same = ap₂ (λ r found. cond (is_eq r) (Some e.1) found) (o.congr q k e.0 same) (get-same es q k same)

  rest_above : (y : K × X) (ys : List (K × X)) → IsOrdered cmp (y ∷ ys) → AllByRecursion (λ k. cmp k y.0 ≡ Greater) (keys_of ys)
  unfolding IsStrictlySortedBy
  rest_above y ys s = turn (λ k h. reversed o y.0 k Less h) (keys_of ys) s.0

  rest_ordered : (x : K × X) (xs : List (K × X)) → IsOrdered cmp (x ∷ xs) → IsOrdered cmp xs
  unfolding IsStrictlySortedBy
  rest_ordered x xs s = s.1

  pub passed_ordered : (xs : List (K × X)) → IsOrdered cmp xs → IsOrdered cmp (drop 1 xs)
  passed_ordered [] s = s
  passed_ordered (x ∷ xs) s = rest_ordered x xs s

with_second : {V W : Type 0} → Option (Option V × Option W) → Option W → Option (Option V × Option W)
with_second found None = found
with_second found (Some y) = Some (first_of found, Some y)

seconds : {V W : Type 0} (x : Option V) (y : Option W) → with_second (option_map (λ (x : V). (Some x, None)) x) y ≡ both_at x y
unfolding with_second
seconds None None = refl
seconds None (Some y) = refl
seconds (Some x) None = refl
seconds (Some x) (Some y) = refl

keys_of-alone : {K V : Type 0} (W : Type 0) (es : List (K × V)) → keys_of (alone {W = W} es) ≡ keys_of es
keys_of-alone W [] = refl
keys_of-alone W (e ∷ es) = ap (λ ks. e.0 ∷ ks) (keys_of-alone W es)

module _ {K V W : Type 0} (cmp : K → K → Ordering) where
  get-alone : (es : List (K × V)) (q : K) → get cmp (alone {W = W} es) q ≡ option_map (λ (x : V). (Some x, None)) (get cmp es q)
  get-alone [] q = refl
  get-alone (e ∷ es) q =
      elim (is_at (cmp q) e.0) as (λ b. cond b (Some (Some e.1, None)) (get cmp (alone {W = W} es) q) ≡ option_map (λ (x : V). (Some x, None)) (cond b (Some e.1) (get cmp es q))) [
        | true ↦ refl
        | false ↦ get-alone es q
      ]

  put-alone : (k : K) (v : Option V × Option W) (es : List (K × V)) → Each cmp Less k es → put_entry cmp (alone es) k v ≡ (k, v) ∷ alone es
  put-alone k v [] h = refl
  put-alone k v (e ∷ es) h = rw h.0 refl

  -- an entry below the keys of the second list stays in front
  fold-past : (h : K × (Option V × Option W)) (m : List (K × (Option V × Option W))) (ys : List (K × W)) → AllByRecursion (λ k. cmp k h.0 ≡ Greater) (keys_of ys)
      → fold (put_beside cmp) (h ∷ m) ys ≡ h ∷ fold (put_beside cmp) m ys
  fold-past h m [] a = refl
  fold-past h m (y ∷ ys) a = rw a.0 (fold-past h (put_beside cmp m y) ys a.1)

  beside_first : (x : K × V) (xs : List (K × V)) (ys : List (K × W)) → AllByRecursion (λ k. cmp k x.0 ≡ Greater) (keys_of ys)
      → beside cmp (x ∷ xs) ys ≡ (x.0, (Some x.1, None)) ∷ beside cmp xs ys
  unfolding beside
  beside_first x xs ys a = fold-past (x.0, (Some x.1, None)) (alone xs) ys a

  beside_second : (xs : List (K × V)) (y : K × W) (ys : List (K × W)) → Each cmp Less y.0 xs → AllByRecursion (λ k. cmp k y.0 ≡ Greater) (keys_of ys)
      → beside cmp xs (y ∷ ys) ≡ (y.0, (None, Some y.1)) ∷ beside cmp xs ys
  unfolding beside
  beside_second xs y ys below a =
      let none : get cmp (alone {W = W} xs) y.0 ≡ None = get-alone xs y.0 ∙ ap (option_map (λ (x : V). (Some x, None))) (get-before cmp y.0 [] xs below) in
      let first : put_beside cmp (alone xs) y ≡ (y.0, (None, Some y.1)) ∷ alone xs =
      ap (λ f. put_entry cmp (alone xs) y.0 (first_of f, Some y.1)) none ∙ put-alone y.0 (None, Some y.1) xs below in
      ap (λ m. fold (put_beside cmp) m ys) first ∙ fold-past (y.0, (None, Some y.1)) (alone xs) ys a

  beside_both : (x : K × V) (xs : List (K × V)) (y : K × W) (ys : List (K × W)) → cmp y.0 x.0 ≡ Equal → AllByRecursion (λ k. cmp k y.0 ≡ Greater) (keys_of ys)
      → beside cmp (x ∷ xs) (y ∷ ys) ≡ (y.0, (Some x.1, Some y.1)) ∷ beside cmp xs ys
  unfolding beside
  beside_both x xs y ys same a = rw same (fold-past (y.0, (Some x.1, Some y.1)) (alone xs) ys a)

  module _ (o : IsTotalOrder cmp) where
    -- the rest of a list whose first entry is at hand
    module _ (f : List (K × V)) (s : List (K × W)) (ordered : IsOrdered cmp f × IsOrdered cmp s) where
      pub no_more : f ≡ [] → s ≡ [] → beside cmp f s ≡ []
      unfolding beside
      no_more is-f is-s = rw (is-f, is-s) refl

      pub first_alone : (x : K × V) → f ≡ x ∷ drop 1 f → s ≡ [] → beside cmp f s ≡ (x.0, (Some x.1, None)) ∷ beside cmp (drop 1 f) s
      first_alone x is-f is-s =
          ap (λ l. beside cmp l s) is-f ∙ beside_first x (drop 1 f) s (subst (λ l. AllByRecursion (λ k. cmp k x.0 ≡ Greater) (keys_of l)) (sym is-s) tt)

      pub second_alone : (y : K × W) → f ≡ [] → s ≡ y ∷ drop 1 s → beside cmp f s ≡ (y.0, (None, Some y.1)) ∷ beside cmp f (drop 1 s)
      second_alone y is-f is-s =
          ap (λ l. beside cmp f l) is-s
          ∙ beside_second f y (drop 1 s) (subst (λ l. Each cmp Less y.0 l) (sym is-f) tt) (rest_above cmp o y (drop 1 s) (subst (IsOrdered cmp) is-s ordered.1))

      module _ (x : K × V) (y : K × W) (is-f : f ≡ x ∷ drop 1 f) (is-s : s ≡ y ∷ drop 1 s) where
        heads : beside cmp f s ≡ beside cmp (x ∷ drop 1 f) (y ∷ drop 1 s)
        heads = ap₂ (λ a b. beside cmp a b) is-f is-s

        after_x : AllByRecursion (λ k. cmp x.0 k ≡ Less) (keys_of (drop 1 f))
        unfolding IsStrictlySortedBy
        after_x = (subst (IsOrdered cmp) is-f ordered.0).0

        after_y : AllByRecursion (λ k. cmp y.0 k ≡ Less) (keys_of (drop 1 s))
        unfolding IsStrictlySortedBy
        after_y = (subst (IsOrdered cmp) is-s ordered.1).0

        above_y : AllByRecursion (λ k. cmp k y.0 ≡ Greater) (keys_of (drop 1 s))
        above_y = rest_above cmp o y (drop 1 s) (subst (IsOrdered cmp) is-s ordered.1)

        pub first_below : cmp x.0 y.0 ≡ Less → beside cmp f s ≡ (x.0, (Some x.1, None)) ∷ beside cmp (drop 1 f) s
        first_below less =
            heads
            ∙ beside_first x (drop 1 f) (y ∷ drop 1 s) (reversed o x.0 y.0 Less less, turn (λ k h. reversed o x.0 k Less (o.trans x.0 y.0 k less h)) (keys_of (drop 1 s)) after_y)
            ∙ ap (λ l. (x.0, (Some x.1, None)) ∷ beside cmp (drop 1 f) l) (sym is-s)

        pub second_below : cmp x.0 y.0 ≡ Greater → beside cmp f s ≡ (y.0, (None, Some y.1)) ∷ beside cmp f (drop 1 s)
        second_below greater =
            let less = reversed o x.0 y.0 Greater greater in
            heads
            ∙ beside_second (x ∷ drop 1 f) y (drop 1 s) (less, turn (λ k h. o.trans y.0 x.0 k less h) (keys_of (drop 1 f)) after_x) above_y
            ∙ ap (λ l. (y.0, (None, Some y.1)) ∷ beside cmp l (drop 1 s)) (sym is-f)

        pub both_there : cmp x.0 y.0 ≡ Equal → beside cmp f s ≡ (y.0, (Some x.1, Some y.1)) ∷ beside cmp (drop 1 f) (drop 1 s)
        both_there same = heads ∙ beside_both x (drop 1 f) y (drop 1 s) (reversed o x.0 y.0 Equal same) above_y

    -- ---- the values at a key

    fold-ordered : (m : List (K × (Option V × Option W))) (ys : List (K × W)) → IsOrdered cmp m → IsOrdered cmp (fold (put_beside cmp) m ys)
    fold-ordered m [] s = s
    fold-ordered m (y ∷ ys) s = fold-ordered (put_beside cmp m y) ys (ordered_put cmp o y.0 (first_of (get cmp m y.0), Some y.1) m s)

    pub beside-ordered : (xs : List (K × V)) (ys : List (K × W)) → IsOrdered cmp xs → IsOrdered cmp (beside cmp xs ys)
    unfolding beside
    beside-ordered xs ys s = fold-ordered (alone xs) ys (subst (λ ks. IsStrictlySortedBy cmp ks) (sym (keys_of-alone W xs)) s)

    step-get : (q : K) (m : List (K × (Option V × Option W))) (y : K × W) (ys : List (K × W)) → IsOrdered cmp (y ∷ ys)
        → with_second (get cmp (put_beside cmp m y) q) (get cmp ys q) ≡ with_second (get cmp m q) (get cmp (y ∷ ys) q)
    unfolding IsStrictlySortedBy with_second
    step-get q m y ys s =
        let put = put_entry-Updates cmp o y.0 (first_of (get cmp m y.0), Some y.1) m q ∙ ap (λ b. cond b (Some (first_of (get cmp m y.0), Some y.1)) (get cmp m q)) ((eq_by_cmp_equiv o).symm y.0 q) in
        ap (λ found. with_second found (get cmp ys q)) put
        ∙ elim (eq_by_cmp cmp q y.0) as (λ b. eq_by_cmp cmp q y.0 ≡ b → with_second (cond b (Some (first_of (get cmp m y.0), Some y.1)) (get cmp m q)) (get cmp ys q) ≡ with_second (get cmp m q) (cond b (Some y.1) (get cmp ys q))) [
          | true ↦ λ t.
              let same = (Equal-is (cmp q y.0)).0 t in
              let none = get-before cmp q [] ys (turn (λ k h. o.congr q y.0 k same ∙ h) (keys_of ys) s.0) in
              ap (λ w. with_second (Some (first_of (get cmp m y.0), Some y.1)) w) none ∙ ap (λ found. Some (first_of found, Some y.1)) (sym (get-same cmp o m q y.0 same))
          | false ↦ λ t. refl
        ] refl

    fold-get : (q : K) (m : List (K × (Option V × Option W))) (ys : List (K × W)) → IsOrdered cmp ys
        → get cmp (fold (put_beside cmp) m ys) q ≡ with_second (get cmp m q) (get cmp ys q)
    unfolding with_second
    fold-get q m [] s = refl
    fold-get q m (y ∷ ys) s = fold-get q (put_beside cmp m y) ys (rest_ordered cmp o y ys s) ∙ step-get q m y ys s

    pub beside-get : (xs : List (K × V)) (ys : List (K × W)) → IsOrdered cmp ys → (q : K) → get cmp (beside cmp xs ys) q ≡ both_at (get cmp xs q) (get cmp ys q)
    unfolding beside
    beside-get xs ys s q = fold-get q (alone xs) ys s ∙ ap (λ found. with_second found (get cmp ys q)) (get-alone xs q) ∙ seconds (get cmp xs q) (get cmp ys q)
