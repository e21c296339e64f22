-- Entries in order, around one of them: what a look-up, a put and a take do on its side of it.
use Rattle.std.proofs.Common.{◌≡◌, ◌+◌, inl, inr, cond, List, [], ◌∷◌, ◌++◌, length, refl, ap, ◌∙◌, arith}
use Rattle.std.specs.Prelude.{Some, None, ◌⊎◌}
use Rattle.std.specs.declared.cmp.Ordering.{Ordering}
use Rattle.std.specs.declared.cmp.Ordering.TheVariants.{Less, Equal, Greater}
use Rattle.std.specs.Ordering.{is_eq, ordering_reverse}
use Rattle.std.specs.Cmp.{IsTotalOrder, eq_by_cmp_equiv, alike_right, Equal-is}
use Rattle.std.specs.Option.{is_some}
use Rattle.std.proofs.lemmas.List.{map-append}
use Rattle.std.proofs.lemmas.List.Elements.{filter-append}
use Rattle.std.proofs.lemmas.Map.{lookup-remove_entry}
use Rattle.std.proofs.lemmas.Map.Keys.{IsDistinct-from_sorted}
use Rattle.std.specs.List.{All, AllByRecursion}
use Rattle.std.proofs.lemmas.Map.Entries.{lookup_from_place}
use Rattle.std.specs.List.Sorted.{IsStrictlySortedBy}
use Rattle.std.proofs.lemmas.Option.{slice_get-get_or}
use Rattle.std.specs.Map.{keys_of}
use Rattle.std.specs.BTreeMap.{is_at}
use Rattle.std.specs.BTreeMap.Range.{entries_below, entries_from}
use Rattle.cap_tree.specs.Tree.{IsOrdered, get, put_entry, take_entry, Updates}

-- the other way round
pub reversed : {K : Type 0} {cmp : K → K → Ordering} → IsTotalOrder cmp → (x y : K) (r : Ordering) → cmp x y ≡ r → cmp y x ≡ ordering_reverse r
reversed o x y r h = o.antisymm y x ∙ ap ordering_reverse h

-- no keys are in order
pub sorted_nil : {K : Type 0} (cmp : K → K → Ordering) → IsStrictlySortedBy cmp []
unfolding IsStrictlySortedBy
sorted_nil cmp = tt

-- what holds of each element holds by what follows from it
pub all_turn : {X : Type 0} (P Q : X → Type 0) → ((x : X) → P x → Q x) → (xs : List X) → AllByRecursion P xs → AllByRecursion Q xs
all_turn P Q f [] h = tt
all_turn P Q f (x ∷ xs) h = (f x h.0, all_turn P Q f xs h.1)

module _ {X : Type 0} where
  pub all_append : (P : X → Type 0) (xs ys : List X) → AllByRecursion P xs → AllByRecursion P ys → AllByRecursion P (xs ++ ys)
  all_append P [] ys h k = k
  all_append P (x ∷ xs) ys h k = (h.0, all_append P xs ys h.1 k)

  pub all_left : (P : X → Type 0) (xs ys : List X) → AllByRecursion P (xs ++ ys) → AllByRecursion P xs
  all_left P [] ys h = tt
  all_left P (x ∷ xs) ys h = (h.0, all_left P xs ys h.1)

  pub all_right : (P : X → Type 0) (xs ys : List X) → AllByRecursion P (xs ++ ys) → AllByRecursion P ys
  all_right P [] ys h = h
  all_right P (x ∷ xs) ys h = all_right P xs ys h.1

module _ {K V : Type 0} (cmp : K → K → Ordering) where
  -- each key of the entries compares so to k
  abbrev pub Each : Ordering → K → List (K × V) → Type 0
  Each answer k es = AllByRecursion (λ y. cmp k y ≡ answer) (keys_of es)

  -- ---- k is above the entries in front

  pub put_entry-past : (k : K) (v : V) (front back : List (K × V)) → Each Greater k front → put_entry cmp (front ++ back) k v ≡ front ++ put_entry cmp back k v
  put_entry-past k v [] back h = refl
  put_entry-past k v (e ∷ es) back h = rw h.0 (ap (λ t. e ∷ t) (put_entry-past k v es back h.1))

  pub get-past : (k : K) (front back : List (K × V)) → Each Greater k front → get cmp (front ++ back) k ≡ get cmp back k
  get-past k [] back h = refl
  get-past k (e ∷ es) back h = rw h.0 (get-past k es back h.1)

  pub take_entry-past : (k : K) (front back : List (K × V)) → Each Greater k front → take_entry cmp (front ++ back) k ≡ front ++ take_entry cmp back k
  take_entry-past k [] back h = refl
  take_entry-past k (e ∷ es) back h = rw h.0 (ap (λ t. e ∷ t) (take_entry-past k es back h.1))

  pub entries_from-past : (k : K) (front back : List (K × V)) → Each Greater k front → entries_from (cmp k) (front ++ back) ≡ entries_from (cmp k) back
  entries_from-past k [] back h = refl
  entries_from-past k (e ∷ es) back h = rw h.0 (entries_from-past k es back h.1)

  -- ---- k is below the entries behind

  pub put_entry-before : (k : K) (v : V) (front back : List (K × V)) → Each Less k back → put_entry cmp (front ++ back) k v ≡ put_entry cmp front k v ++ back
  put_entry-before k v [] [] h = refl
  put_entry-before k v [] (b ∷ bs) h = rw h.0
  put_entry-before k v (x ∷ xs) back h = grind (arith, put_entry-before k v xs back h)

  pub get-below : (k : K) (es : List (K × V)) → Each Less k es → get cmp es k ≡ None
  get-below k [] h = refl
  get-below k (e ∷ es) h = rw h.0 (get-below k es h.1)

  pub get-before : (k : K) (front back : List (K × V)) → Each Less k back → get cmp (front ++ back) k ≡ get cmp front k
  get-before k [] back h = get-below k back h
  get-before k (e ∷ es) back h = ap (λ t. cond (is_at (cmp k) e.0) (Some e.1) t) (get-before k es back h)

  -- nothing is taken where no key is equal
  pub take_entry-absent : (k : K) (es : List (K × V)) → get cmp es k ≡ None → take_entry cmp es k ≡ es
  take_entry-absent k [] h = refl
  take_entry-absent k (e ∷ es) h = grind (arith, take_entry-absent k es)

  pub take_entry-before : (k : K) (front back : List (K × V)) → Each Less k back → take_entry cmp (front ++ back) k ≡ take_entry cmp front k ++ back
  take_entry-before k [] back h = take_entry-absent k back (get-below k back h)
  take_entry-before k (e ∷ es) back h = grind (arith, take_entry-before k es back h)

  entries_from-below : (k : K) (es : List (K × V)) → Each Less k es → entries_from (cmp k) es ≡ es
  entries_from-below k [] h = refl
  entries_from-below k (e ∷ es) h = rw h.0 (ap (λ t. e ∷ t) (entries_from-below k es h.1))

  pub entries_from-before : (k : K) (front back : List (K × V)) → Each Less k back → entries_from (cmp k) (front ++ back) ≡ entries_from (cmp k) front ++ back
  entries_from-before k front back h = rw (filter-append, entries_from-below k back h) refl

  -- ---- parts of entries in order

  pub each_front : (P : K → Type 0) (front back : List (K × V)) → AllByRecursion P (keys_of (front ++ back)) → AllByRecursion P (keys_of front)
  each_front P front back h = all_left P (keys_of front) (keys_of back) (rw map-append at h)

  pub each_back : (P : K → Type 0) (front back : List (K × V)) → AllByRecursion P (keys_of (front ++ back)) → AllByRecursion P (keys_of back)
  each_back P front back h = all_right P (keys_of front) (keys_of back) (rw map-append at h)

  pub ordered_front : (front back : List (K × V)) → IsOrdered cmp (front ++ back) → IsOrdered cmp front
  unfolding IsStrictlySortedBy
  ordered_front [] back s = tt
  ordered_front (e ∷ es) back s = (each_front (λ y. cmp e.0 y ≡ Less) es back s.0, ordered_front es back s.1)

  pub ordered_rest : (front back : List (K × V)) → IsOrdered cmp (front ++ back) → IsOrdered cmp back
  unfolding IsStrictlySortedBy
  ordered_rest [] back s = s
  ordered_rest (e ∷ es) back s = ordered_rest es back s.1

  pub ordered_back : (front : List (K × V)) (e : K × V) (back : List (K × V)) → IsOrdered cmp (front ++ e ∷ back) → IsOrdered cmp back
  unfolding IsStrictlySortedBy
  ordered_back front e back s = (ordered_rest front (e ∷ back) s).1

  pub below_middle : (front : List (K × V)) (e : K × V) (back : List (K × V)) → IsOrdered cmp (front ++ e ∷ back) → AllByRecursion (λ y. cmp y e.0 ≡ Less) (keys_of front)
  unfolding IsStrictlySortedBy
  below_middle [] e back s = tt
  below_middle (x ∷ xs) e back s = ((each_back (λ y. cmp x.0 y ≡ Less) xs (e ∷ back) s.0).0, below_middle xs e back s.1)

  pub above_middle : (front : List (K × V)) (e : K × V) (back : List (K × V)) → IsOrdered cmp (front ++ e ∷ back) → AllByRecursion (λ y. cmp e.0 y ≡ Less) (keys_of back)
  unfolding IsStrictlySortedBy
  above_middle front e back s = (ordered_rest front (e ∷ back) s).0

  pub each_turn : (P Q : K → Type 0) → ((y : K) → P y → Q y) → (es : List (K × V)) → AllByRecursion P (keys_of es) → AllByRecursion Q (keys_of es)
  each_turn P Q f es h = all_turn P Q f (keys_of es) h

  module _ (o : IsTotalOrder cmp) where
    pub less_than_back : (k : K) (front : List (K × V)) (e : K × V) (back : List (K × V)) → IsOrdered cmp (front ++ e ∷ back) → cmp k e.0 ≡ Less → Each Less k back
    less_than_back k front e back s h =
        each_turn (λ y. cmp e.0 y ≡ Less) (λ y. cmp k y ≡ Less) (λ y above. o.trans k e.0 y h above) back (above_middle front e back s)

    pub equal_before_back : (k : K) (front : List (K × V)) (e : K × V) (back : List (K × V)) → IsOrdered cmp (front ++ e ∷ back) → cmp k e.0 ≡ Equal → Each Less k back
    equal_before_back k front e back s h =
        each_turn (λ y. cmp e.0 y ≡ Less) (λ y. cmp k y ≡ Less) (λ y above. o.congr k e.0 y h ∙ above) back (above_middle front e back s)

    -- the first entry whose key is not below k, and all behind it
    pub entries_from-here : (k : K) (e : K × V) (back : List (K × V)) → IsOrdered cmp (e ∷ back) → (cmp k e.0 ≡ Less) ⊎ (cmp k e.0 ≡ Equal) → entries_from (cmp k) (e ∷ back) ≡ e ∷ back
    entries_from-here k e back s (inl h) = entries_from-below k (e ∷ back) (h, less_than_back k [] e back s h)
    entries_from-here k e back s (inr h) = rw h (ap (λ t. e ∷ t) (entries_from-below k back (equal_before_back k [] e back s h)))

    -- ---- after a put or a take

    pub each_put : (P : K → Type 0) (k : K) (v : V) (es : List (K × V)) → P k → AllByRecursion P (keys_of es) → AllByRecursion P (keys_of (put_entry cmp es k v))
    each_put P k v [] p h = (p, tt)
    each_put P k v (e ∷ es) p h = grind (arith, each_put P k v es p h.1, p, h.0, h.1)

    pub ordered_put : (k : K) (v : V) (es : List (K × V)) → IsOrdered cmp es → IsOrdered cmp (put_entry cmp es k v)
    unfolding IsStrictlySortedBy
    ordered_put k v [] s = (tt, tt)
    ordered_put k v (e ∷ es) s = grind (arith, less_than_back k [] e es s, equal_before_back k [] e es s, each_put (λ y. cmp e.0 y ≡ Less) k v es, reversed o k e.0 Greater, ordered_put k v es s.1, s.0, s.1)

    pub each_take : (P : K → Type 0) (k : K) (es : List (K × V)) → AllByRecursion P (keys_of es) → AllByRecursion P (keys_of (take_entry cmp es k))
    each_take P k [] h = tt
    each_take P k (e ∷ es) h = grind (arith, each_take P k es h.1, h.0, h.1)

    pub ordered_take : (k : K) (es : List (K × V)) → IsOrdered cmp es → IsOrdered cmp (take_entry cmp es k)
    unfolding IsStrictlySortedBy
    ordered_take k [] s = tt
    ordered_take k (e ∷ es) s = grind (arith, each_take (λ y. cmp e.0 y ≡ Less) k es s.0, ordered_take k es s.1, s.1)

    pub length-put_entry : (k : K) (v : V) (es : List (K × V)) → IsOrdered cmp es → length (put_entry cmp es k v) ≡ length es + cond (is_some (get cmp es k)) 0 1
    unfolding IsStrictlySortedBy
    length-put_entry k v [] s = refl
    length-put_entry k v (e ∷ es) s = grind (arith, get-below k es, less_than_back k [] e es s, length-put_entry k v es s.1)

    pub put_entry-Updates : (k : K) (v : V) (es : List (K × V)) → Updates cmp es (put_entry cmp es k v) k (Some v)
    put_entry-Updates k v [] q = rw ((eq_by_cmp_equiv o).symm q k)
    put_entry-Updates k v (e ∷ es) q = grind (arith, (eq_by_cmp_equiv o).symm q k, alike_right o k e.0 q, alike_right o q e.0 k, put_entry-Updates k v es q)

    pub take_entry-Updates : (k : K) (es : List (K × V)) → IsOrdered cmp es → Updates cmp es (take_entry cmp es k) k None
    take_entry-Updates k es s q = lookup-remove_entry (eq_by_cmp_equiv o) (is_at (cmp k)) (λ x y t. ap is_eq (o.congr k x y ((Equal-is (cmp k x)).0 t))) q es (IsDistinct-from_sorted cmp (keys_of es) s)

    -- a look-up finds each entry
    pub each_found : (es : List (K × V)) → IsOrdered cmp es → All (λ e. get cmp es e.0 ≡ Some e.1) es
    each_found es s i d below = lookup_from_place (eq_by_cmp_equiv o) es i _ _ (IsDistinct-from_sorted cmp (keys_of es) s) (slice_get-get_or es i d below)

  pub length-take_entry : (k : K) (es : List (K × V)) → length (take_entry cmp es k) + cond (is_some (get cmp es k)) 1 0 ≡ length es
  length-take_entry k [] = refl
  length-take_entry k (e ∷ es) = grind (arith, length-take_entry k es)

  entries_below-none : (k : K) (es : List (K × V)) → Each Less k es → entries_below (cmp k) es ≡ []
  entries_below-none k [] h = refl
  entries_below-none k (e ∷ es) h = rw h.0 (entries_below-none k es h.1)

  module _ (o : IsTotalOrder cmp) where
    -- the entries below a key stand before the others
    pub children_at : (k : K) (es : List (K × V)) → IsOrdered cmp es → es ≡ entries_below (cmp k) es ++ entries_from (cmp k) es
    unfolding IsStrictlySortedBy
    children_at k [] s = refl
    children_at k (e ∷ es) s = grind (arith, entries_below-none k es, entries_from-below k es, less_than_back o k [] e es s, equal_before_back o k [] e es s, children_at k es s.1)
