-- The branches of a node: into which of them a key belongs, they cut where some of them change, a key changed below one, and how many entries are below them.
use Rattle.std.proofs.Common.{◌≡◌, ℕ, zero, suc, ◌+◌, ◌<◌, ◌≢◌, List, [], ◌∷◌, ◌++◌, length, take, drop, get_or, set, refl, sym, ap, ap₂, ◌∙◌, arith, add-one, inl, inr, ◌≤◌, Ok, Err, Result, ◌*◌, ◌^◌, length-append, lit<, lit≤}
use Rattle.std.specs.Prelude.{◌⊎◌, Option, Some, None}
use Rattle.std.specs.declared.cmp.Ordering.{Ordering}
use Rattle.std.specs.declared.cmp.Ordering.TheVariants.{Less, Greater, Equal}
use Rattle.std.specs.List.{AllByRecursion, insert, remove}
use Rattle.std.specs.Cmp.{IsTotalOrder, alike_right}
use Rattle.std.specs.Map.{keys_of}
use Rattle.std.proofs.lemmas.List.{append_assoc, set_split, take-append-drop, take_more_set, drop-set-lt, map-append, nil_from_length}
use Rattle.std.proofs.lemmas.Grind.{common_steps, pow_more}
use Rattle.std.proofs.Math.Seq.{drop-cons}
use Rattle.cap_tree.specs.Subtree.{Subtree, Branch}
use Rattle.cap_tree.specs.Shape.{entries_of, NoneBelow, EachBelow, AreChildren, AreFit, place, IsChild, IsFilled, IsFit}
use Rattle.cap_tree.specs.Siblings.{IsRearrangement}
use Rattle.cap_tree.proofs.EntryLemmas.{Each, each_back, each_front, each_turn, reversed, put_entry-past, put_entry-before, take_entry-past, take_entry-before, get-past, get-before, entries_from-past, entries_from-before, each_put, each_take, ordered_put, ordered_take, all_append, all_left, all_right, all_turn}
use Rattle.std.specs.BTreeMap.Range.{entries_from}
use Rattle.cap_value.specs.declared.memory.Fault.{Fault}
use Rattle.cap_value.specs.declared.memory.Fault.TheVariants.{Refused, OutOfMemory}
use Rattle.cap_tree.specs.Tree.{IsOrdered, get}
use Rattle.cap_tree.specs.Change.{change_entry, Changes}
use Rattle.std.proofs.Math.Nat.{mul-le-mul_right, pow-le-pow_left, pow-le-pow_right, pow-suc}
use Rattle.std.proofs.lemmas.Bool.{cases_lt}

-- and by what follows from two facts
pub all_both : {X : Type 0} (P Q R : X → Type 0) → ((x : X) → P x → Q x → R x) → (xs : List X) → AllByRecursion P xs → AllByRecursion Q xs → AllByRecursion R xs
all_both P Q R f [] a b = tt
all_both P Q R f (x ∷ xs) a b = (f x a.0 b.0, all_both P Q R f xs a.1 b.1)

-- an answer that is not Less
pub is_not_less : (r : Ordering) → (r ≡ Equal) ⊎ (r ≡ Greater) → r ≢ Less
is_not_less r (inl e) h = cc
is_not_less r (inr e) h = cc

module _ {K : Type 0} (cmp : K → K → Ordering) (o : IsTotalOrder cmp) where
  pub turn_not_less : (k a : K) → cmp k a ≢ Less → cmp a k ≢ Greater
  turn_not_less k a not above = not (reversed o a k Greater above)

  pub not_less_self : (k : K) → cmp k k ≢ Less
  not_less_self k h = cc (reversed o k k Less h)

  pub not_greater_self : (k : K) → cmp k k ≢ Greater
  not_greater_self k h = cc (reversed o k k Greater h)

  pub less_not_greater : (a b : K) → cmp a b ≡ Less → cmp a b ≢ Greater
  less_not_greater a b h e = cc

  -- k < a and a ≤ y
  pub below_least : (k a y : K) → cmp k a ≡ Less → cmp a y ≢ Greater → cmp k y ≡ Less
  below_least k a y h not = grind (arith, o.antisymm y a, o.trans k a y h, alike_right o a y k)

  -- l ≤ e and e < s
  pub least_below : (l e s : K) → cmp l e ≢ Greater → cmp s e ≡ Greater → cmp l s ≡ Less
  least_below l e s not above = grind (arith, o.antisymm e l, o.trans l e s, o.congr l e s, reversed o s e Greater above)

  -- y < l and l ≤ s
  pub above_upper : (l s y : K) → cmp l s ≢ Greater → cmp l y ≡ Greater → cmp s y ≡ Greater
  above_upper l s y not above = reversed o y s Less (below_least y l s (reversed o l y Greater above) not)

  -- q ≤ k and y < q
  pub above_all_of : (k q y : K) → cmp k q ≢ Less → cmp q y ≡ Greater → cmp k y ≡ Greater
  above_all_of k q y not = above_upper q k y (turn_not_less k q not)

module _ {K V : Type 0} where
  pub keys_append : (P : K → Type 0) (xs ys : List (K × V)) → AllByRecursion P (keys_of xs) → AllByRecursion P (keys_of ys) → AllByRecursion P (keys_of (xs ++ ys))
  keys_append P xs ys h k = rw map-append (all_append P (keys_of xs) (keys_of ys) h k)

  module _ (cmp : K → K → Ordering) (o : IsTotalOrder cmp) where
    place_none : (k : K) (p : Branch K V) (ps : List (Branch K V)) → place cmp k (p ∷ ps) ≡ 0 → cmp k p.0 ≡ Less
    place_none k p ps h = grind arith

    pub place_step : (k : K) (p : Branch K V) (ps : List (Branch K V)) (j : ℕ) → place cmp k (p ∷ ps) ≡ j + 1 → (place cmp k ps ≡ j) × (cmp k p.0 ≢ Less)
    place_step k p ps j h = (grind arith, λ less. grind arith)

    -- the least key of a branch is below those that follow
    pub leasts_below : (l : K) (es : List (K × V)) (ps : List (Branch K V)) → 0 < length es → NoneBelow cmp l es → AllByRecursion (λ q. EachBelow cmp q.0 es) ps → AllByRecursion (λ q. cmp l q.0 ≡ Less) ps
    leasts_below l [] ps fed not each = absurd (omega arith)
    leasts_below l (e ∷ es) ps fed not each = all_turn (λ q. EachBelow cmp q.0 (e ∷ es)) (λ q. cmp l q.0 ≡ Less) (λ q a. least_below cmp o l e.0 q.0 not.0 a.0) ps each

    -- k is below every child
    pub below_children : (k : K) (height : ℕ) (ps : List (Branch K V)) → AreChildren cmp height ps → place cmp k ps ≡ 0 → AllByRecursion (λ q. cmp k q.0 ≡ Less) ps
    below_children k height [] h none = tt
    below_children k height (p ∷ ps) h none =
        let here = place_none k p ps none in
        (here, all_turn (λ q. cmp p.0 q.0 ≡ Less) (λ q. cmp k q.0 ≡ Less) (λ q. o.trans k p.0 q.0 here) ps (leasts_below p.0 p.1.entries ps h.0.1 h.1 h.2))

    pub below_entries : (k : K) (height : ℕ) (ps : List (Branch K V)) → AreChildren cmp height ps → AllByRecursion (λ q. cmp k q.0 ≡ Less) ps → Each cmp Less k (entries_of ps)
    below_entries k height [] h b = tt
    below_entries k height (p ∷ ps) h b = keys_append (λ y. cmp k y ≡ Less) p.1.entries (entries_of ps) (each_turn cmp (λ y. cmp p.0 y ≢ Greater) (λ y. cmp k y ≡ Less) (λ y not. below_least cmp o k p.0 y b.0 not) p.1.entries h.1) (below_entries k height ps h.3 b.1)

    pub place_within : (k : K) (ps : List (Branch K V)) → place cmp k ps ≤ length ps
    place_within k [] = omega arith
    place_within k (p ∷ ps) = grind (arith, place_within k ps)

    pub step_up : (k : K) (p : Branch K V) (ps : List (Branch K V)) → cmp k p.0 ≢ Less → place cmp k (p ∷ ps) ≡ place cmp k ps + 1
    step_up k p ps not = grind arith

    pub place_zero : (k : K) (ps : List (Branch K V)) → AllByRecursion (λ q. cmp k q.0 ≡ Less) ps → place cmp k ps ≡ 0
    place_zero k [] h = refl
    place_zero k (p ∷ ps) h = rw h.0 refl

module _ {X : Type 0} where
  -- ---- the items around one that changes, and around two

  pub rest_at : (xs : List X) (i : ℕ) (d : X) → i < length xs → d ≡ get_or xs i d → drop i xs ≡ d ∷ drop (suc i) xs
  rest_at xs i d within is = drop-cons xs i d within ∙ ap (λ x. x ∷ drop (suc i) xs) (sym is)

  pub around : (xs : List X) (i : ℕ) (d : X) → i < length xs → d ≡ get_or xs i d → xs ≡ take i xs ++ d ∷ drop (suc i) xs
  around xs i d within is = sym (take-append-drop i xs) ∙ ap (λ t. take i xs ++ t) (rest_at xs i d within is)

  pub insert_around : (xs : List X) (i : ℕ) (x y : X) → i < length xs → insert (set xs i x) (i + 1) y ≡ take i xs ++ x ∷ y ∷ drop (suc i) xs
  insert_around xs i x y within = ap₂ (λ l r. l ++ y ∷ r) (take_more_set xs i x within) (drop-set-lt (i + 1) xs i x (omega arith)) ∙ append_assoc (take i xs) (x ∷ []) (y ∷ drop (i + 1) xs) ∙ rw add-one refl

  pub two_around : (xs : List X) (i : ℕ) (d e : X) → i + 1 < length xs → d ≡ get_or (remove xs (i + 1)) i d → e ≡ get_or xs (i + 1) e → xs ≡ take i xs ++ d ∷ e ∷ drop (suc (suc i)) xs
  two_around xs i d e within is_d is_e =
      let here : d ≡ get_or xs i d = grind (arith, common_steps) in
      around xs i d (omega arith) here ∙ ap (λ t. take i xs ++ d ∷ t) (rest_at xs (suc i) e (omega arith) (rw add-one at is_e))

  -- the second of them is removed
  skipped : (xs : List X) (i : ℕ) → i + 1 < length xs → (i < length (remove xs (i + 1))) × (take i (remove xs (i + 1)) ≡ take i xs) × (drop (suc i) (remove xs (i + 1)) ≡ drop (suc (suc i)) xs)
  skipped xs i within = (grind (arith, common_steps), grind (arith, common_steps), grind (arith, common_steps))

  -- and the first changes
  pub remove_around : (xs : List X) (i : ℕ) (x : X) → i + 1 < length xs → set (remove xs (i + 1)) i x ≡ take i xs ++ x ∷ drop (suc (suc i)) xs
  remove_around xs i x within = let s = skipped xs i within in set_split (remove xs (i + 1)) i x s.0 ∙ ap₂ (λ l r. l ++ x ∷ r) s.1 s.2

  -- and the second is put back
  pub redo_around : (xs : List X) (i : ℕ) (x y : X) → i + 1 < length xs → insert (set (remove xs (i + 1)) i x) (i + 1) y ≡ take i xs ++ x ∷ y ∷ drop (suc (suc i)) xs
  redo_around xs i x y within = let s = skipped xs i within in insert_around (remove xs (i + 1)) i x y s.0 ∙ ap₂ (λ l r. l ++ x ∷ y ∷ r) s.1 s.2

  pub read_at : (xs : List X) (y : X) (ys : List X) (i : ℕ) (d : X) → i ≡ length xs → get_or (xs ++ y ∷ ys) i d ≡ y
  read_at [] y ys zero d is = refl
  read_at [] y ys (suc i) d is = absurd (omega arith)
  read_at (x ∷ xs) y ys zero d is = absurd (omega arith)
  read_at (x ∷ xs) y ys (suc i) d is = read_at xs y ys i d (omega arith)

module _ {K V : Type 0} where
  pub entries_append : (xs ys : List (Branch K V)) → entries_of (xs ++ ys) ≡ entries_of xs ++ entries_of ys
  entries_append [] ys = refl
  entries_append (x ∷ xs) ys = ap (λ t. x.1.entries ++ t) (entries_append xs ys) ∙ sym (append_assoc x.1.entries (entries_of xs) (entries_of ys))

  module _ (cmp : K → K → Ordering) where
    -- ---- the branches of two lists, one behind the other

    pub children_append : (height : ℕ) (xs ys : List (Branch K V)) → AreChildren cmp height xs → AreChildren cmp height ys → AllByRecursion (λ q. EachBelow cmp q.0 (entries_of xs)) ys → AreChildren cmp height (xs ++ ys)
    children_append height [] ys hx hy over = hy
    children_append height (x ∷ xs) ys hx hy over =
        (hx.0, hx.1, all_append (λ q. EachBelow cmp q.0 x.1.entries) xs ys hx.2 (all_turn (λ q. EachBelow cmp q.0 (x.1.entries ++ entries_of xs)) (λ q. EachBelow cmp q.0 x.1.entries) (λ q. each_front cmp (λ y. cmp q.0 y ≡ Greater) x.1.entries (entries_of xs)) ys over), children_append height xs ys hx.3 hy (all_turn (λ q. EachBelow cmp q.0 (x.1.entries ++ entries_of xs)) (λ q. EachBelow cmp q.0 (entries_of xs)) (λ q. each_back cmp (λ y. cmp q.0 y ≡ Greater) x.1.entries (entries_of xs)) ys over))

    pub children_left : (height : ℕ) (xs ys : List (Branch K V)) → AreChildren cmp height (xs ++ ys) → AreChildren cmp height xs
    children_left height [] ys h = tt
    children_left height (x ∷ xs) ys h = (h.0, h.1, all_left (λ q. EachBelow cmp q.0 x.1.entries) xs ys h.2, children_left height xs ys h.3)

    pub children_right : (height : ℕ) (xs ys : List (Branch K V)) → AreChildren cmp height (xs ++ ys) → AreChildren cmp height ys
    children_right height [] ys h = h
    children_right height (x ∷ xs) ys h = children_right height xs ys h.3

    pub children_over : (height : ℕ) (xs ys : List (Branch K V)) → AreChildren cmp height (xs ++ ys) → AllByRecursion (λ q. EachBelow cmp q.0 (entries_of xs)) ys
    children_over height [] [] h = tt
    children_over height [] (y ∷ ys) h = (tt, children_over height [] ys h.3)
    children_over height (x ∷ xs) ys h = all_both (λ q. EachBelow cmp q.0 x.1.entries) (λ q. EachBelow cmp q.0 (entries_of xs)) (λ q. EachBelow cmp q.0 (x.1.entries ++ entries_of xs)) (λ q a b. keys_append (λ y. cmp q.0 y ≡ Greater) x.1.entries (entries_of xs) a b) ys (all_right (λ q. EachBelow cmp q.0 x.1.entries) xs ys h.2) (children_over height xs ys h.3)

    -- k is not below the branches in front, nor below the least key l that follows, and below those behind
    pub record IsGap (k : K) (front : List (Branch K V)) (l : K) (back : List (Branch K V)) : Type 0 where
      pub over : AllByRecursion (λ q. cmp k q.0 ≢ Less) front
      pub here : cmp k l ≢ Less
      pub none : place cmp k back ≡ 0

    module _ (o : IsTotalOrder cmp) where
      -- no entry from a branch on is below its least key
      pub least_of : (height : ℕ) (p : Branch K V) (ps : List (Branch K V)) → AreChildren cmp height (p ∷ ps) → NoneBelow cmp p.0 (entries_of (p ∷ ps))
      least_of height p ps h = keys_append (λ y. cmp p.0 y ≢ Greater) p.1.entries (entries_of ps) h.1 (each_turn cmp (λ y. cmp p.0 y ≡ Less) (λ y. cmp p.0 y ≢ Greater) (λ y. less_not_greater cmp o p.0 y) (entries_of ps) (below_entries cmp o p.0 height ps h.3 (leasts_below cmp o p.0 p.1.entries ps h.0.1 h.1 h.2)))

      pub first_is : (l s : K) (es : List (K × V)) → 0 < length es → NoneBelow cmp l es → EachBelow cmp s es → cmp l s ≡ Less
      first_is l s [] fed not each = absurd (omega arith)
      first_is l s (e ∷ es) fed not each = least_below cmp o l e.0 s not.0 each.0

      -- ---- the place of a key

      module _ (k : K) where
        place_parts : (front : List (Branch K V)) (p : Branch K V) (back : List (Branch K V)) (n : ℕ) → place cmp k (front ++ p ∷ back) ≡ length front + n + 1 → AllByRecursion (λ q. cmp k q.0 ≢ Less) front × (cmp k p.0 ≢ Less) × (place cmp k back ≡ n)
        place_parts [] p back n is = let step = place_step cmp o k p back n (omega (arith, is)) in (tt, step.1, step.0)
        place_parts (q ∷ qs) p back n is =
            let step = place_step cmp o k q (qs ++ p ∷ back) (length qs + n + 1) (omega (arith, is)) in
            let rest = place_parts qs p back n step.0 in
            ((step.1, rest.0), rest.1, rest.2)

        place_over : (front ps : List (Branch K V)) → AllByRecursion (λ q. cmp k q.0 ≢ Less) front → place cmp k (front ++ ps) ≡ length front + place cmp k ps
        place_over [] ps h = omega arith
        place_over (q ∷ qs) ps h = step_up cmp o k q (qs ++ ps) h.0 ∙ omega (arith, place_over qs ps h.1)

        pub gap_at : (front : List (Branch K V)) (p : Branch K V) (back : List (Branch K V)) (j : ℕ) → place cmp k (front ++ p ∷ back) ≡ j + 1 → j ≡ length front → IsGap k front p.0 back
        gap_at front p back j is at = let parts = place_parts front p back 0 (omega (arith, is, at)) in record { over = parts.0; here = parts.1; none = parts.2 }

        -- in p, or in the branch that follows it
        pub gap_of_two : (height : ℕ) (front : List (Branch K V)) (p e : Branch K V) (back : List (Branch K V)) (j : ℕ) → AreChildren cmp height (front ++ p ∷ e ∷ back) → (place cmp k (front ++ p ∷ e ∷ back) ≡ j + 1) ⊎ (place cmp k (front ++ p ∷ e ∷ back) ≡ j + 2) → j ≡ length front → IsGap k front p.0 back
        gap_of_two height front p e back j h (inl is) at =
            let parts = place_parts front p (e ∷ back) 0 (omega (arith, is, at)) in
            let right = children_right height front (p ∷ e ∷ back) h in
            record { over = parts.0; here = parts.1; none = place_zero cmp o k back (below_children cmp o k height (e ∷ back) right.3 parts.2).1 }
        gap_of_two height front p e back j h (inr is) at =
            let parts = place_parts front p (e ∷ back) 1 (omega (arith, is, at)) in
            record { over = parts.0; here = parts.1; none = (place_step cmp o k e back 0 parts.2).0 }

        module _ (front : List (Branch K V)) (l : K) (back : List (Branch K V)) (gap : IsGap k front l back) where
          pub place_at : (a : Subtree K V) (rest : List (Branch K V)) → place cmp k (front ++ (l, a) ∷ rest) ≡ length front + place cmp k rest + 1
          place_at a rest = place_over front ((l, a) ∷ rest) gap.over ∙ omega (arith, step_up cmp o k (l, a) rest gap.here)

        -- ---- the entries around those among which the key belongs

        pub above_front : (height : ℕ) (front : List (Branch K V)) (p : Branch K V) (back : List (Branch K V)) → AreChildren cmp height (front ++ p ∷ back) → cmp k p.0 ≢ Less → Each cmp Greater k (entries_of front)
        above_front height front p back h not = each_turn cmp (λ y. cmp p.0 y ≡ Greater) (λ y. cmp k y ≡ Greater) (λ y a. above_all_of cmp o k p.0 y not a) (entries_of front) (children_over height front (p ∷ back) h).0

        pub below_back : (height : ℕ) (front : List (Branch K V)) (p : Branch K V) (back : List (Branch K V)) → AreChildren cmp height (front ++ p ∷ back) → place cmp k back ≡ 0 → Each cmp Less k (entries_of back)
        below_back height front p back h none = let right = (children_right height front (p ∷ back) h).3 in below_entries cmp o k height back right (below_children cmp o k height back right none)

  -- ---- the first branch gets another least key

  module _ (cmp : K → K → Ordering) (o : IsTotalOrder cmp) (k : K) (height : ℕ) where
    pub renamed : (ps new : List (Branch K V)) (d : Branch K V) → 0 < length ps → new ≡ set ps 0 (k, (get_or ps 0 d).1) → AreChildren cmp height ps → AreFit ps → NoneBelow cmp k (entries_of ps) → IsRearrangement cmp height ps new × (place cmp k new ≡ 1) × AllByRecursion (λ q. cmp k q.0 ≢ Greater) new
    renamed [] new d some is h fit not = absurd (omega arith)
    renamed (p ∷ ps) new d some is h fit not =
        let low : NoneBelow cmp k p.1.entries = each_front cmp (λ y. cmp k y ≢ Greater) p.1.entries (entries_of ps) not in
        let above = leasts_below cmp o k p.1.entries ps h.0.1 low h.2 in
        rw is (
          record { entries = refl; children = (h.0, low, h.2, h.3); fit = fit },
          step_up cmp o k (k, p.1) ps (not_less_self cmp o k) ∙ omega (arith, place_zero cmp o k ps above),
          (not_greater_self cmp o k, all_turn (λ q. cmp k q.0 ≡ Less) (λ q. cmp k q.0 ≢ Greater) (λ q. less_not_greater cmp o k q.0) ps above),
        )

-- ---- one key is changed in a list of entries and below a child

pub either_way : {P : Type 0} → P ⊎ P → P
either_way (inl p) = p
either_way (inr p) = p

-- what holds of k and of each key before holds of each key after
abbrev pub Keeps : {K V : Type 0} → K → List (K × V) → List (K × V) → Type 1
Keeps {K = K} k before after = (P : K → Type 0) → P k → AllByRecursion P (keys_of before) → AllByRecursion P (keys_of after)

module _ {K V : Type 0} (cmp : K → K → Ordering) (k : K) where
  change-around : (next : Option V) (front middle back : List (K × V)) → Each cmp Greater k front → Each cmp Less k back → change_entry cmp (front ++ (middle ++ back)) k next ≡ front ++ (change_entry cmp middle k next ++ back)
  change-around (Some v) front middle back f b = put_entry-past cmp k v front (middle ++ back) f ∙ ap (λ t. front ++ t) (put_entry-before cmp k v middle back b)
  change-around None front middle back f b = take_entry-past cmp k front (middle ++ back) f ∙ ap (λ t. front ++ t) (take_entry-before cmp k middle back b)

  module _ (o : IsTotalOrder cmp) where
    change_keeps : (next : Option V) (es : List (K × V)) → Keeps k es (change_entry cmp es k next)
    change_keeps (Some v) es P p h = each_put cmp o P k v es p h
    change_keeps None es P p h = each_take cmp o P k es h

    change_ordered : (next : Option V) (es : List (K × V)) → IsOrdered cmp es → IsOrdered cmp (change_entry cmp es k next)
    change_ordered (Some v) es s = ordered_put cmp o k v es s
    change_ordered None es s = ordered_take cmp o k es s

    -- ---- below the branch p, to which the key belongs

    module _ (height : ℕ) (front : List (Branch K V)) (p : Branch K V) (back : List (Branch K V)) (h : AreChildren cmp height (front ++ p ∷ back)) where
      -- where the key is above the entries in front and below those behind
      module _ (above : Each cmp Greater k (entries_of front)) (below : Each cmp Less k (entries_of back)) where
        pub get_below : get cmp (entries_of (front ++ p ∷ back)) k ≡ get cmp p.1.entries k
        get_below = ap (λ l. get cmp l k) (entries_append front (p ∷ back)) ∙ get-past cmp k (entries_of front) (entries_of (p ∷ back)) above ∙ get-before cmp k p.1.entries (entries_of back) below

        pub from_below : entries_from (cmp k) (entries_of (front ++ p ∷ back)) ≡ entries_from (cmp k) p.1.entries ++ entries_of back
        from_below = ap (entries_from (cmp k)) (entries_append front (p ∷ back)) ∙ entries_from-past cmp k (entries_of front) (entries_of (p ∷ back)) above ∙ entries_from-before cmp k p.1.entries (entries_of back) below

      module _ (gap : IsGap cmp k front p.0 back) where
        above : Each cmp Greater k (entries_of front)
        above = above_front cmp o k height front p back h gap.here

        below : Each cmp Less k (entries_of back)
        below = below_back cmp o k height front p back h gap.none

        pub get_there : get cmp (entries_of (front ++ p ∷ back)) k ≡ get cmp p.1.entries k
        get_there = get_below above below

        pub change_there : (next : Option V) (c : Subtree K V) → c.entries ≡ change_entry cmp p.1.entries k next → entries_of (front ++ (p.0, c) ∷ back) ≡ change_entry cmp (entries_of (front ++ p ∷ back)) k next
        change_there next c is =
            entries_append front ((p.0, c) ∷ back)
            ∙ ap (λ t. entries_of front ++ (t ++ entries_of back)) is
            ∙ sym (ap (λ l. change_entry cmp l k next) (entries_append front (p ∷ back)) ∙ change-around next (entries_of front) p.1.entries (entries_of back) above below)

        pub keep_there : (c : Subtree K V) → c.entries ≡ p.1.entries → entries_of (front ++ (p.0, c) ∷ back) ≡ entries_of (front ++ p ∷ back)
        keep_there c is = entries_append front ((p.0, c) ∷ back) ∙ ap (λ t. entries_of front ++ (t ++ entries_of back)) is ∙ sym (entries_append front (p ∷ back))

        pub children_there : (c : Subtree K V) → IsChild height c → Keeps k p.1.entries c.entries → AreChildren cmp height (front ++ (p.0, c) ∷ back)
        children_there c subtree keeps =
            let here = children_right cmp height front (p ∷ back) h in
            let over = children_over cmp height front (p ∷ back) h in
            children_append cmp height front ((p.0, c) ∷ back) (children_left cmp height front (p ∷ back) h) (subtree, keeps (λ y. cmp p.0 y ≢ Greater) (turn_not_less cmp o k p.0 gap.here) here.1, all_both (λ q. EachBelow cmp q.0 p.1.entries) (λ q. cmp k q.0 ≡ Less) (λ q. EachBelow cmp q.0 c.entries) (λ q above less. keeps (λ y. cmp q.0 y ≡ Greater) (reversed o k q.0 Less less) above) back here.2 (below_children cmp o k height back here.3 gap.none), here.3) over

-- ---- a change with a hook

module _ {K V E S : Type 0} (cmp : K → K → Ordering) (gives : S → Option V → Option V → Result Unit E → S → Type 0) (k : K) (next : Option V → Option V) (s t : S) where
  -- of equal lists
  pub changes_of : (r : Result (Option V) (Fault E)) (b c a d : List (K × V)) → b ≡ c → a ≡ d → Changes cmp gives r b k next a s t → Changes cmp gives r c k next d s t
  changes_of r b c a d e f h = rw (← e, ← f) h

  pub changes_keeps : IsTotalOrder cmp → (r : Result (Option V) (Fault E)) (before after : List (K × V)) → Changes cmp gives r before k next after s t → Keeps k before after
  changes_keeps o (Ok was) before after h P p each = rw h.1 (change_keeps cmp k o (next (get cmp before k)) before P p each)
  changes_keeps o (Err OutOfMemory) before after h P p each = rw h.0 each
  changes_keeps o (Err (Refused why)) before after h P p each = rw h.0 each

  pub changes_ordered : IsTotalOrder cmp → (r : Result (Option V) (Fault E)) (before after : List (K × V)) → IsOrdered cmp before → Changes cmp gives r before k next after s t → IsOrdered cmp after
  changes_ordered o (Ok was) before after w h = rw h.1 (change_ordered cmp k o (next (get cmp before k)) before w)
  changes_ordered o (Err OutOfMemory) before after w h = rw h.0 w
  changes_ordered o (Err (Refused why)) before after w h = rw h.0 w

  -- below a child
  pub changes_there : (o : IsTotalOrder cmp) (height : ℕ) (front : List (Branch K V)) (p : Branch K V) (back : List (Branch K V)) → AreChildren cmp height (front ++ p ∷ back) → IsGap cmp k front p.0 back → (c : Subtree K V) (r : Result (Option V) (Fault E)) → Changes cmp gives r p.1.entries k next c.entries s t → Changes cmp gives r (entries_of (front ++ p ∷ back)) k next (entries_of (front ++ (p.0, c) ∷ back)) s t
  changes_there o height front p back h gap c (Ok was) w =
      let there = get_there cmp k o height front p back h gap in
      (w.0 ∙ sym there, rw there (change_there cmp k o height front p back h gap (next (get cmp p.1.entries k)) c w.1), rw there w.2)
  changes_there o height front p back h gap c (Err OutOfMemory) w = (keep_there cmp k o height front p back h gap c w.0, w.1)
  changes_there o height front p back h gap c (Err (Refused why)) w = (keep_there cmp k o height front p back h gap c w.0, rw (get_there cmp k o height front p back h gap) w.1)

-- ---- how many entries a node has at its height

-- the lesser power has the lesser exponent
pub less_power : (b h n : ℕ) → 0 < b → b ^ h < b ^ n → h < n
less_power b h n some less = grind (arith, cases_lt h n, pow-le-pow_right some {i = n} {j = h})

module _ {K V : Type 0} where
  -- a child of a node at this height
  pub child_filled : (height : ℕ) (c : Subtree K V) → c.height + 1 ≡ height → IsFit c → (4 ^ height ≤ length c.entries) × (length c.entries ≤ 16 ^ height)
  child_filled height c level fit =
      let low : 4 * 4 ^ c.height ≤ c.items * 4 ^ c.height = mul-le-mul_right (4 ^ c.height) fit.0 in
      let high : c.items * 16 ^ c.height ≤ 16 * 16 ^ c.height = mul-le-mul_right (16 ^ c.height) fit.1 in
      rw (← level, pow_more 4 c.height, pow_more 16 c.height) (omega (arith, low, fit.2.0), omega (arith, high, fit.2.1))

  -- a node that has items has entries
  pub fed : (c : Subtree K V) → 0 < c.items → IsFilled c → 0 < length c.entries
  fed c some filled =
      let one : 4 ^ 0 ≤ 4 ^ c.height = pow-le-pow_right (lit< tt) {i = 0} {j = c.height} (omega arith) in
      let low : 1 * 4 ^ c.height ≤ c.items * 4 ^ c.height = mul-le-mul_right (4 ^ c.height) some in
      omega (arith, one, low, filled.0)

  -- and one that has none has none
  pub none_filled : (c : Subtree K V) → c.items ≡ 0 → IsFilled c → c.entries ≡ []
  none_filled c none filled = nil_from_length c.entries (let most : length c.entries ≤ 0 * 16 ^ c.height = rw none at filled.1 in omega (arith, most))

  module _ (cmp : K → K → Ordering) where
    pub children_filled : (height : ℕ) (ps : List (Branch K V)) → AreChildren cmp height ps → AreFit ps → (length ps * 4 ^ height ≤ length (entries_of ps)) × (length (entries_of ps) ≤ length ps * 16 ^ height)
    children_filled height [] h fit = (omega arith, omega arith)
    children_filled height (p ∷ ps) h fit =
        let here = child_filled height p.1 h.0.0 fit.0 in
        let rest = children_filled height ps h.3 fit.1 in
        let whole = length-append p.1.entries (entries_of ps) in
        (omega (arith, here.0, rest.0, whole), omega (arith, here.1, rest.1, whole))

-- ---- how high a root is that has so many entries

module _ {K V : Type 0} (node : Subtree K V) (filled : IsFilled node) (root : 0 < node.height → 2 ≤ node.items) where
  -- an inner root has two children, and each node below it four items at least
  least_by : 0 < node.height → 2 * 4 ^ node.height ≤ length node.entries
  least_by high =
      let two = mul-le-mul_right (4 ^ node.height) (root high) in
      omega (arith, filled.0, two)

  pub few_levels : 0 < length node.entries → (digits : ℕ) → length node.entries < 2 ^ digits → node.height + 1 ≤ digits
  few_levels some zero fits = absurd (omega arith)
  few_levels some (suc digits) fits = by_height node.height refl
    where
      by_height : (h : ℕ) → h ≡ node.height → node.height + 1 ≤ suc digits
      by_height zero low = omega arith
      by_height (suc h) high =
          let least = least_by (omega arith) in
          let less : 2 ^ node.height ≤ 4 ^ node.height = pow-le-pow_left (lit≤ tt) node.height in
          let more = less_power 2 node.height digits (lit< tt) (omega (arith, least, less, fits, pow-suc 2 digits)) in
          omega (arith, more)
