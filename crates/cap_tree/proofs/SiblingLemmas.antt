-- The children of a node as it sees them, around one that is looked at or changed, or around two neighbours, and divided anew.
use Rattle.std.proofs.Common.{◌≡◌, ℕ, zero, suc, ◌+◌, ◌<◌, ◌≤◌, List, [], ◌∷◌, ◌++◌, length, vec_len, take, drop, get_or, set, refl, sym, ap, subst, ◌∙◌, arith, length-append, inl, inr, ◌-◌, ◌≢◌}
use Rattle.std.specs.Prelude.{◌≢◌, Some, slice_get, Option, None, MatchOption}
use Rattle.std.specs.declared.vec.Vec.{Vec}
use Rattle.std.specs.declared.cmp.Ordering.{Ordering}
use Rattle.std.specs.declared.cmp.Ordering.TheVariants.{Less, Equal, Greater}
use Rattle.std.specs.Cmp.{IsTotalOrder}
use Rattle.std.specs.List.{AllByRecursion, insert, remove}
use Rattle.std.proofs.lemmas.List.{append_assoc, append-nil, map-append, length-map, length-take-le, set_split, take_more, map-set, get_or-map, take-append-drop}
use Rattle.cap_tree.specs.declared.node.Child.{Child}
use Rattle.cap_tree.specs.Subtree.{Subtree, Branch}
use Rattle.cap_tree.specs.Tree.{IsOrdered}
use Rattle.cap_tree.specs.Shape.{branches, entries_of, items_at, IsChild, EachBelow, NoneBelow, AreChildren, IsFit, AreFit, place, IsInner, leaf, inner}
use Rattle.cap_tree.specs.Siblings.{AreSiblings, IsRearrangement, HasItems, IsReady}
use Rattle.cap_tree.specs.Cut.{AreNeighbours, IsCut, merged}
use Rattle.cap_tree.proofs.EntryLemmas.{each_front, each_turn, ordered_front, ordered_rest, reversed, below_middle, above_middle, all_left, all_right, all_append, all_turn}
use Rattle.cap_tree.proofs.BranchLemmas.{around, insert_around, two_around, remove_around, redo_around, read_at, entries_append, children_right, IsGap, gap_at, children_append, children_left, children_over, least_of, first_is, place_at, above_upper, is_not_less, less_not_greater, place_within, leasts_below, place_step, step_up, not_greater_self, rest_at, fed}

module _ {K V Z : Type 0} where
  -- one more child that is seen as the child at i
  pub branches_push : (copies : List (Child K V Z)) (new : Child K V Z) (children : List (Child K V Z)) (i : ℕ) (d : Child K V Z) → i < length children → branches copies ≡ take i (branches children) → d ≡ get_or children i d → new.least ≡ d.least → new.node.value ≡ d.node.value → branches (copies ++ new ∷ []) ≡ take (i + 1) (branches children)
  branches_push copies new children i d within so_far is least value =
      let at = get_or-map {Y = Branch K V} (λ (p : Child K V Z). (p.least, p.node.value)) children i d (d.least, d.node.value) within in
      let same : (new.least, new.node.value) ≡ get_or (branches children) i (d.least, d.node.value) = rw (at, ← is, least, value) in
      let more = take_more (branches children) i (d.least, d.node.value) (rw length-map within) in
      rw (map-append, so_far, more, same)

  pub branches_set : (children : List (Child K V Z)) (j : ℕ) (x : Child K V Z) → branches (set children j x) ≡ set (branches children) j (x.least, x.node.value)
  branches_set children j x = map-set (λ (p : Child K V Z). (p.least, p.node.value)) children j x

  pub length_branches : (children : List (Child K V Z)) → length (branches children) ≡ length children
  length_branches children = rw length-map refl

  -- the first child gets another least key
  pub lowered : (children : List (Child K V Z)) (d x : Child K V Z) (k : K) → 0 < length children → d ≡ get_or children 0 d → x.least ≡ k → x.node.value ≡ d.node.value → branches (set children 0 x) ≡ set (branches children) 0 (k, (get_or (branches children) 0 (d.least, d.node.value)).1)
  lowered children d x k some is least node =
      let at = get_or-map {Y = Branch K V} (λ (p : Child K V Z). (p.least, p.node.value)) children 0 d (d.least, d.node.value) some in
      rw (branches_set, at, ← is, least, node)

  -- a key that is not below the last child's least key is below no child's
  pub last_place : (cmp : K → K → Ordering) → IsTotalOrder cmp → (k : K) (height : ℕ) (children : List (Child K V Z)) (x : Child K V Z) → AreChildren cmp height (branches children) → slice_get children (length children - 1) ≡ Some x → cmp k x.least ≢ Less → place cmp k (branches children) ≡ length children
  last_place cmp o k height [] x h is not = refl
  last_place cmp o k height (p ∷ []) x h is not = let same : p ≡ x = cc in step_up cmp o k (p.least, p.node.value) [] (rw same not)
  last_place cmp o k height (p ∷ q ∷ qs) x h is not =
      let less : suc (suc (length qs)) - 1 ≡ suc (suc (length qs) - 1) = omega arith in
      let rest = last_place cmp o k height (q ∷ qs) x h.3 (rw less at is) not in
      let up = (place_step cmp o k (q.least, q.node.value) (branches qs) (length qs) (rest ∙ omega arith)).1 in
      step_up cmp o k (p.least, p.node.value) (branches (q ∷ qs)) (λ less. up (o.trans k p.least q.least less (leasts_below cmp o p.least p.node.value.entries (branches (q ∷ qs)) h.0.1 h.1 h.2).0)) ∙ omega (arith, rest)

module _ {K V Z : Type 0} where
  pub cut : (whole front rest : List (Child K V Z)) → whole ≡ front ++ rest → branches whole ≡ branches front ++ branches rest
  cut whole front rest is = ap branches is ∙ map-append (λ (p : Child K V Z). (p.least, p.node.value)) front rest

  pub front_length : (xs : List (Child K V Z)) (j : ℕ) → j < length xs → j ≡ length (branches (take j xs))
  front_length xs j within = sym (length-map (take j xs) (λ (p : Child K V Z). (p.least, p.node.value)) ∙ length-take-le j xs (omega arith))

  -- x stands where d stood, and has its least key
  module _ (xs : List (Child K V Z)) (j : ℕ) (d x : Child K V Z) (least : x.least ≡ d.least) where
    pub cut_set : j < length xs → branches (set xs j x) ≡ branches (take j xs) ++ (d.least, x.node.value) ∷ branches (drop (suc j) xs)
    cut_set within = rw (← least) (cut (set xs j x) (take j xs) (x ∷ drop (suc j) xs) (set_split xs j x within))

    pub cut_insert : (y : Child K V Z) → j < length xs → branches (insert (set xs j x) (j + 1) y) ≡ branches (take j xs) ++ (d.least, x.node.value) ∷ (y.least, y.node.value) ∷ branches (drop (suc j) xs)
    cut_insert y within = rw (← least) (cut (insert (set xs j x) (j + 1) y) (take j xs) (x ∷ y ∷ drop (suc j) xs) (insert_around xs j x y within))

  -- d and e stand one behind the other, and e is taken out
  module _ (xs : Vec (Child K V Z) Z) (left : List (Child K V Z)) (j : ℕ) (d e : Child K V Z) (some : j + 1 < vec_len xs) (is : left ≡ remove xs.items (j + 1)) (is_d : d ≡ get_or left j d) (is_e : e ≡ get_or xs.items (j + 1) e) where
    within : j + 1 < length xs.items
    within = omega (arith, some, xs.ok.0)

    pub cut_two : branches xs.items ≡ branches (take j xs.items) ++ (d.least, d.node.value) ∷ (e.least, e.node.value) ∷ branches (drop (suc (suc j)) xs.items)
    cut_two = cut xs.items (take j xs.items) (d ∷ e ∷ drop (suc (suc j)) xs.items) (two_around xs.items j d e within (rw is at is_d) is_e)

    module _ (x : Child K V Z) (least : x.least ≡ d.least) where
      pub cut_remove : branches (set left j x) ≡ branches (take j xs.items) ++ (d.least, x.node.value) ∷ branches (drop (suc (suc j)) xs.items)
      cut_remove = rw (← least, is) (cut (set (remove xs.items (j + 1)) j x) (take j xs.items) (x ∷ drop (suc (suc j)) xs.items) (remove_around xs.items j x within))

      -- and y stands in its place
      pub cut_redo : (y : Child K V Z) → branches (insert (set left j x) (j + 1) y) ≡ branches (take j xs.items) ++ (d.least, x.node.value) ∷ (y.least, y.node.value) ∷ branches (drop (suc (suc j)) xs.items)
      cut_redo y = rw (← least, is) (cut (insert (set (remove xs.items (j + 1)) j x) (j + 1) y) (take j xs.items) (x ∷ y ∷ drop (suc (suc j)) xs.items) (redo_around xs.items j x y within))

-- a branch that is neither too full nor too underfull stands in for another
pub fit_set : {K V : Type 0} (front back : List (Branch K V)) (p : Branch K V) (c : Subtree K V) → AreFit (front ++ p ∷ back) → IsFit c → AreFit (front ++ (p.0, c) ∷ back)
fit_set front back p c h fit = all_append (λ q. IsFit q.1) front ((p.0, c) ∷ back) (all_left (λ q. IsFit q.1) front (p ∷ back) h) (fit, (all_right (λ q. IsFit q.1) front (p ∷ back) h).1)

module _ {K V : Type 0} (cmp : K → K → Ordering) where
  -- ---- what is known of the branch p

  module _ (whole front back : List (Branch K V)) (p : Branch K V) (is : whole ≡ front ++ p ∷ back) where
    pub child_is : (height : ℕ) → AreChildren cmp height whole → IsChild height p.1
    child_is height h = (children_right cmp height front (p ∷ back) (subst (AreChildren cmp height) is h)).0

    pub child_fit : AreFit whole → IsFit p.1
    child_fit h = (all_right (λ q. IsFit q.1) front (p ∷ back) (subst AreFit is h)).0

    pub child_ordered : IsOrdered cmp (entries_of whole) → IsOrdered cmp p.1.entries
    child_ordered s = ordered_front cmp p.1.entries (entries_of back) (ordered_rest cmp (entries_of front) (entries_of (p ∷ back)) (subst (IsOrdered cmp) (ap entries_of is ∙ entries_append front (p ∷ back)) s))

    pub count_is : length (entries_of whole) ≡ length (entries_of front) + (length p.1.entries + length (entries_of back))
    count_is = ap (λ l. length (entries_of l)) is ∙ ap length (entries_append front (p ∷ back)) ∙ length-append (entries_of front) (entries_of (p ∷ back)) ∙ ap (λ n. length (entries_of front) + n) (length-append p.1.entries (entries_of back))

    pub child_at : (j : ℕ) → j ≡ length front → (d : Branch K V) → items_at j d whole ≡ p.1.items
    child_at j at d = ap (λ l. items_at j d l) is ∙ ap (λ q. q.1.items) (read_at front p back j d at)

    pub ready_at : (P : ℕ → Type 0) (j : ℕ) → j ≡ length front → (key : K) → place cmp key whole ≡ j + 1 → P p.1.items → IsReady cmp key P whole j
    ready_at P j at key there h = record { within = omega (arith, at, ap length is, length-append front (p ∷ back)); place = there; items = λ d. subst P (sym (child_at j at d)) h }

  -- ---- what is known of two neighbours

  module _ (whole front back : List (Branch K V)) (p q : Branch K V) (is : whole ≡ front ++ p ∷ q ∷ back) where
    pub second : whole ≡ (front ++ p ∷ []) ++ q ∷ back
    second = is ∙ sym (append_assoc front (p ∷ []) (q ∷ back))

    pub neighbours : (height : ℕ) → AreSiblings cmp height whole → AreNeighbours cmp p.1 q.1 q.0
    neighbours height s =
        let pair = children_right cmp height front (p ∷ q ∷ back) (subst (AreChildren cmp height) is s.children) in
        let order = ordered_rest cmp (entries_of front) (entries_of (p ∷ q ∷ back)) (subst (IsOrdered cmp) (ap entries_of is ∙ entries_append front (p ∷ q ∷ back)) s.ordered) in
        record {
          level = omega (arith, pair.0.0, pair.3.0.0);
          fits = omega (arith, s.fits, count_is whole front (q ∷ back) p is, length-append q.1.entries (entries_of back));
          ordered = ordered_front cmp (p.1.entries ++ q.1.entries) (entries_of back) (subst (IsOrdered cmp) (sym (append_assoc p.1.entries q.1.entries (entries_of back))) order);
          below = λ some. pair.2.0;
          not_below = pair.3.1;
        }

  -- each child has at least four items, and at most sixteen
  pub fit_items : (P : ℕ → Type 0) → ((n : ℕ) → 4 ≤ n → n ≤ 16 → P n) → (ps : List (Branch K V)) (i : ℕ) → i < length ps → AreFit ps → HasItems P i ps
  fit_items P f [] i within h d = absurd (omega arith)
  fit_items P f (p ∷ ps) zero within h d = f p.1.items h.0.0 h.0.1
  fit_items P f (p ∷ ps) (suc i) within h d = fit_items P f ps i (omega arith) h.1 d

  pub ready_fit : IsTotalOrder cmp → (key : K) (ps : List (Branch K V)) (i : ℕ) → place cmp key ps ≡ i + 1 → AreFit ps → IsReady cmp key (λ n. n ≤ 16) ps i
  ready_fit o key ps i there fit = let within : i < length ps = omega (arith, there, place_within cmp o key ps) in record { within = within; place = there; items = fit_items (λ n. n ≤ 16) (λ n low high. high) ps i within fit }

  pub rearranged : (height : ℕ) (old new : List (Branch K V)) → new ≡ old → AreSiblings cmp height old → IsRearrangement cmp height old new
  rearranged height old new is s = rw is (record { entries = refl; children = s.children; fit = s.fit })

-- ---- the branches of p and of those behind it become one or two others

module _ {K V : Type 0} (cmp : K → K → Ordering) (o : IsTotalOrder cmp) (height : ℕ) (old front : List (Branch K V)) (p : Branch K V) (rest back : List (Branch K V)) (is : old ≡ front ++ p ∷ (rest ++ back)) (s : AreSiblings cmp height old) where
  children : AreChildren cmp height (front ++ p ∷ (rest ++ back))
  children = subst (AreChildren cmp height) is s.children

  middle : AreChildren cmp height (p ∷ (rest ++ back))
  middle = children_right cmp height front (p ∷ (rest ++ back)) children

  over : AllByRecursion (λ q. EachBelow cmp q.0 (entries_of front)) (p ∷ (rest ++ back))
  over = children_over cmp height front (p ∷ (rest ++ back)) children

  low : NoneBelow cmp p.0 (entries_of (p ∷ rest))
  low = least_of cmp o height p rest (children_left cmp height (p ∷ rest) back middle)

  fit : AreFit (front ++ p ∷ (rest ++ back))
  fit = subst AreFit is s.fit

  instead : (others new : List (Branch K V)) → new ≡ front ++ (others ++ back) → entries_of others ≡ entries_of (p ∷ rest) → AreChildren cmp height others → AllByRecursion (λ q. EachBelow cmp q.0 (entries_of front)) others → AreFit others → IsRearrangement cmp height old new
  instead others new now same h above fit_others = rw (now, is) (record {
    entries = entries_append front (others ++ back) ∙ ap (λ t. entries_of front ++ t) (entries_append others back ∙ ap (λ t. t ++ entries_of back) same ∙ sym (entries_append (p ∷ rest) back)) ∙ sym (entries_append front (p ∷ (rest ++ back)));
    children = children_append cmp height front (others ++ back) (children_left cmp height front (p ∷ (rest ++ back)) children) (children_append cmp height others back h (children_right cmp height (p ∷ rest) back middle) (rw same (children_over cmp height (p ∷ rest) back middle))) (all_append (λ q. EachBelow cmp q.0 (entries_of front)) others back above (all_right (λ q. EachBelow cmp q.0 (entries_of front)) (p ∷ rest) back over));
    fit = all_append (λ q. IsFit q.1) front (others ++ back) (all_left (λ q. IsFit q.1) front (p ∷ (rest ++ back)) fit) (all_append (λ q. IsFit q.1) others back fit_others (all_right (λ q. IsFit q.1) (p ∷ rest) back (all_right (λ q. IsFit q.1) front (p ∷ (rest ++ back)) fit)));
  })

  -- one with all their entries
  pub one_instead : (c : Subtree K V) (new : List (Branch K V)) → new ≡ front ++ (p.0, c) ∷ back → c.height + 1 ≡ height → c.entries ≡ entries_of (p ∷ rest) → IsFit c → IsRearrangement cmp height old new
  one_instead c new now level same fit_c = instead ((p.0, c) ∷ []) new now (append-nil c.entries ∙ same) ((level, fed c (omega (arith, fit_c.0)) fit_c.2), rw same low, tt, tt) (over.0, tt) (fit_c, tt)

  -- two, cut at k
  module _ (at : ℕ) (whole a b : Subtree K V) (k : K) (cut : IsCut cmp at whole a b (Some k)) (level : whole.height + 1 ≡ height) (same : whole.entries ≡ entries_of (p ∷ rest)) (fit_a : IsFit a) (fit_b : IsFit b) (new : List (Branch K V)) (now : new ≡ front ++ (p.0, a) ∷ (k, b) ∷ back) where
    pub two_instead : IsRearrangement cmp height old new
    two_instead =
        let child_a : IsChild height a = (omega (arith, level, cut.height), fed a (omega (arith, fit_a.0)) fit_a.2) in
        let child_b : IsChild height b = (omega (arith, level, cut.back_height), fed b (omega (arith, fit_b.0)) fit_b.2) in
        let both = sym cut.entries ∙ same in
        let low_a : NoneBelow cmp p.0 a.entries = each_front cmp (λ y. cmp p.0 y ≢ Greater) a.entries b.entries (rw both low) in
        let above : EachBelow cmp k (entries_of front) = each_turn cmp (λ y. cmp p.0 y ≡ Greater) (λ y. cmp k y ≡ Greater) (λ y. above_upper cmp o p.0 k y (less_not_greater cmp o p.0 k (first_is cmp o p.0 k a.entries child_a.1 low_a cut.parted.1))) (entries_of front) over.0 in
        instead ((p.0, a) ∷ (k, b) ∷ []) new now (ap (λ t. a.entries ++ t) (append-nil b.entries) ∙ both) (child_a, low_a, (cut.parted.1, tt), (child_b, cut.parted.2, tt, tt)) (over.0, (above, tt)) (fit_a, (fit_b, tt))

    -- the key is below k, and belongs to the first of them, or it belongs to the second
    module _ (P : ℕ → Type 0) (j i : ℕ) (first : j ≡ length front) (key : K) (gap : IsGap cmp key front p.0 back) (less : cmp key k ≡ Less → i ≡ j) (not : cmp key k ≢ Less → i ≡ j + 1) (items_a : P a.items) (items_b : P b.items) where
      in_second : cmp key k ≢ Less → IsReady cmp key P new i
      in_second n = rw not (ready_at cmp new (front ++ (p.0, a) ∷ []) back (k, b) (second cmp new front back (p.0, a) (k, b) now) P (j + 1) (omega (arith, first, length-append front ((p.0, a) ∷ []))) key (rw now (place_at cmp o key front p.0 back gap a ((k, b) ∷ back) ∙ omega (arith, first, step_up cmp o key (k, b) back n, gap.none))) items_b)

      pub two_ready : IsReady cmp key P new i
      two_ready = elim (cmp key k) as (λ r. cmp key k ≡ r → IsReady cmp key P new i) [
        | Less ↦ λ e. let none : place cmp key ((k, b) ∷ back) ≡ 0 = rw e refl in rw less (ready_at cmp new front ((k, b) ∷ back) (p.0, a) now P j first key (rw now (place_at cmp o key front p.0 back gap a ((k, b) ∷ back) ∙ omega (arith, first, none))) items_a)
        | Equal ↦ λ e. in_second (is_not_less (cmp key k) (inl e))
        | Greater ↦ λ e. in_second (is_not_less (cmp key k) (inr e))
      ] refl

-- ---- the child d at j, to which the key belongs, between those in front of it and those behind it

pub record IsWay {K V : Type 0} (cmp : K → K → Ordering) (height : ℕ) (key : K) (P : ℕ → Type 0) (whole front : List (Branch K V)) (p : Branch K V) (back : List (Branch K V)) : Type 0 where
  pub is : whole ≡ front ++ p ∷ back
  pub children : AreChildren cmp height (front ++ p ∷ back)
  pub gap : IsGap cmp key front p.0 back
  pub has : P p.1.items

pub way_to : {K V Z : Type 0} (cmp : K → K → Ordering) → IsTotalOrder cmp → (height : ℕ) (key : K) (P : ℕ → Type 0) (xs : List (Child K V Z)) (j : ℕ) (d : Child K V Z) → AreChildren cmp height (branches xs) → IsReady cmp key P (branches xs) j → d ≡ get_or xs j d → (j < length xs) × IsWay cmp height key P (branches xs) (branches (take j xs)) (d.least, d.node.value) (branches (drop (suc j) xs))
way_to cmp o height key P xs j d h ready is =
    let within : j < length xs = omega (arith, ready.within, length_branches xs) in
    let first = front_length xs j within in
    let whole = cut xs (take j xs) (d ∷ drop (suc j) xs) (around xs j d within is) in
    (within, record { is = whole; children = subst (AreChildren cmp height) whole h; gap = gap_at cmp o key _ _ _ j (subst (λ l. place cmp key l ≡ j + 1) whole ready.place) first; has = subst P (child_at cmp (branches xs) (branches (take j xs)) (branches (drop (suc j) xs)) (d.least, d.node.value) whole j first (d.least, d.node.value)) (ready.items (d.least, d.node.value)) })

-- where the children are those of before
pub way_in : {K V Z : Type 0} (cmp : K → K → Ordering) → IsTotalOrder cmp → (height : ℕ) (key : K) (P : ℕ → Type 0) (old xs : List (Child K V Z)) (j : ℕ) (d : Child K V Z) → xs ≡ old → AreSiblings cmp height (branches old) → IsReady cmp key P (branches old) j → d ≡ get_or xs j d → (j < length xs) × AreSiblings cmp height (branches xs) × IsWay cmp height key P (branches xs) (branches (take j xs)) (d.least, d.node.value) (branches (drop (suc j) xs))
way_in cmp o height key P old xs j d same s ready is = let to = way_to cmp o height key P xs j d (rw same s.children) (rw same ready) is in (to.0, rw same s, to.1)

-- ---- what is seen of a node whose items are cut in two, or go on in another node

module _ {K V : Type 0} (cmp : K → K → Ordering) (o : IsTotalOrder cmp) where
  -- entries in order, cut at d
  module _ (es : List (K × V)) (i : ℕ) (d : K × V) (k : K) (within : i < length es) (is : d ≡ get_or es i d) (key : k ≡ d.0) (s : IsOrdered cmp es) where
    parted : IsOrdered cmp (take i es ++ d ∷ drop (suc i) es)
    parted = subst (IsOrdered cmp) (around es i d within is) s

    leaf_below : EachBelow cmp k (take i es)
    leaf_below = rw key (each_turn cmp (λ y. cmp y d.0 ≡ Less) (λ y. cmp d.0 y ≡ Greater) (λ y less. reversed o y d.0 Less less) (take i es) (below_middle cmp (take i es) d (drop (suc i) es) parted))

    pub leaf_above : NoneBelow cmp k (drop i es)
    leaf_above = rw (key, rest_at es i d within is) (not_greater_self cmp o d.0, each_turn cmp (λ y. cmp d.0 y ≡ Less) (λ y. cmp d.0 y ≢ Greater) (λ y. less_not_greater cmp o d.0 y) (drop (suc i) es) (above_middle cmp (take i es) d (drop (suc i) es) parted))

  module _ {Z : Type 0} (at : ℕ) (xs ys front back : Vec (K × V) Z) (s : IsOrdered cmp (xs.items ++ ys.items)) (f : front.items ≡ take at (xs.items ++ ys.items)) (b : back.items ≡ drop at (xs.items ++ ys.items)) (len : vec_len front ≡ at) (back_len : vec_len back + at ≡ vec_len xs + vec_len ys) where
    pub leaf_cut : (key : Option K) → MatchOption key (at ≡ vec_len xs + vec_len ys) (λ k. (at < vec_len xs + vec_len ys) × ((d : K × V) × ((d ≡ get_or (xs.items ++ ys.items) at d) × (k ≡ d.0)))) → IsCut cmp at (merged (leaf xs) (leaf ys)) (leaf front) (leaf back) key
    leaf_cut key h = record {
      entries = rw (f, b) (sym (take-append-drop at (xs.items ++ ys.items)));
      height = refl;
      back_height = refl;
      len = len;
      back_len = back_len;
      parted = by_key key h;
    }
      where
        by_key : (key : Option K) → MatchOption key (at ≡ vec_len xs + vec_len ys) (λ k. (at < vec_len xs + vec_len ys) × ((d : K × V) × ((d ≡ get_or (xs.items ++ ys.items) at d) × (k ≡ d.0)))) → MatchOption key (vec_len back ≡ 0) (λ l. (0 < vec_len back) × EachBelow cmp l front.items × NoneBelow cmp l back.items)
        by_key None h = omega (arith, h, back_len)
        by_key (Some k) h =
            let within : at < length (xs.items ++ ys.items) = omega (arith, h.0, length-append xs.items ys.items, xs.ok.0, ys.ok.0) in
            (omega (arith, h.0, back_len), rw f (leaf_below (xs.items ++ ys.items) at h.1.0 k within h.1.1.0 h.1.1.1 s), rw b (leaf_above (xs.items ++ ys.items) at h.1.0 k within h.1.1.0 h.1.1.1 s))

module _ {K V Z : Type 0} (cmp : K → K → Ordering) (o : IsTotalOrder cmp) (height : ℕ) where
  -- no entry of the children from d on is below its least key
  pub inner_above : (children : List (Child K V Z)) (at : ℕ) (d : Child K V Z) → AreChildren cmp height (branches (drop at children)) → at < length children → d ≡ get_or children at d → NoneBelow cmp d.least (entries_of (branches (drop at children)))
  inner_above children at d h within is = rw (rest_at children at d within is) (least_of cmp o height (d.least, d.node.value) (branches (drop (suc at) children)) (rw (rest_at children at d within is) at h))

  -- children of two nodes, of which those of the second, which go on from k, got other least keys
  module _ (n m : ℕ) (k : K) (xs others : Vec (Child K V Z) Z) (ys : List (Child K V Z)) (h : IsInner cmp height n xs) (g : IsInner cmp height m others) (same : IsRearrangement cmp height (branches others.items) (branches ys)) (not : AllByRecursion (λ q. cmp k q.0 ≢ Greater) (branches ys)) (below : 0 < length (branches ys) → EachBelow cmp k (entries_of (branches xs.items))) where
    all_over : (ps : List (Branch K V)) → AllByRecursion (λ q. cmp k q.0 ≢ Greater) ps → (0 < length ps → EachBelow cmp k (entries_of (branches xs.items))) → AllByRecursion (λ q. EachBelow cmp q.0 (entries_of (branches xs.items))) ps
    all_over [] not below = tt
    all_over (p ∷ ps) not below = all_turn (λ q. cmp k q.0 ≢ Greater) (λ q. EachBelow cmp q.0 (entries_of (branches xs.items))) (λ q up. each_turn cmp (λ y. cmp k y ≡ Greater) (λ y. cmp q.0 y ≡ Greater) (λ y above. above_upper cmp o k q.0 y up above) (entries_of (branches xs.items)) (below (omega arith))) (p ∷ ps) not

    all_children : AreChildren cmp height (branches xs.items ++ branches ys)
    all_children = children_append cmp height (branches xs.items) (branches ys) h.children same.children (all_over (branches ys) not below)

    all_fit : AreFit (branches xs.items ++ branches ys)
    all_fit = all_append (λ p. IsFit p.1) (branches xs.items) (branches ys) h.fit same.fit

    entries : entries_of (branches xs.items) ++ entries_of (branches others.items) ≡ entries_of (branches (xs.items ++ ys))
    entries = ap (λ l. entries_of (branches xs.items) ++ l) (sym same.entries) ∙ sym (ap entries_of (cut (xs.items ++ ys) xs.items ys refl) ∙ entries_append (branches xs.items) (branches ys))

    -- and are divided anew
    module _ (at : ℕ) (front back : Vec (Child K V Z) Z) (f : front.items ≡ take at (xs.items ++ ys)) (b : back.items ≡ drop at (xs.items ++ ys)) where
      halves : branches xs.items ++ branches ys ≡ branches front.items ++ branches back.items
      halves = sym (cut (xs.items ++ ys) xs.items ys refl) ∙ ap branches (sym (take-append-drop at (xs.items ++ ys))) ∙ cut (take at (xs.items ++ ys) ++ drop at (xs.items ++ ys)) (take at (xs.items ++ ys)) (drop at (xs.items ++ ys)) refl ∙ rw (f, b) refl

      parts : AreChildren cmp height (branches front.items ++ branches back.items)
      parts = subst (AreChildren cmp height) halves all_children

      pub cut_entries : entries_of (branches xs.items) ++ entries_of (branches others.items) ≡ entries_of (branches front.items) ++ entries_of (branches back.items)
      cut_entries = entries ∙ ap entries_of (cut (xs.items ++ ys) xs.items ys refl ∙ halves) ∙ entries_append (branches front.items) (branches back.items)

      pub cut_count : n + m ≡ length (entries_of (branches front.items)) + length (entries_of (branches back.items))
      cut_count = omega (arith, h.count, g.count, ap length cut_entries, length-append (entries_of (branches xs.items)) (entries_of (branches others.items)), length-append (entries_of (branches front.items)) (entries_of (branches back.items)))

      pub cut_front : (c : ℕ) → c ≡ length (entries_of (branches front.items)) → vec_len front ≤ 16 → IsInner cmp height c front
      cut_front c count most = record { high = h.high; most = most; children = children_left cmp height (branches front.items) (branches back.items) parts; fit = all_left (λ p. IsFit p.1) (branches front.items) (branches back.items) (subst AreFit halves all_fit); count = count }

      pub cut_back : (c : ℕ) → c ≡ length (entries_of (branches back.items)) → vec_len back ≤ 16 → IsInner cmp height c back
      cut_back c count most = record { high = h.high; most = most; children = children_right cmp height (branches front.items) (branches back.items) parts; fit = all_right (λ p. IsFit p.1) (branches front.items) (branches back.items) (subst AreFit halves all_fit); count = count }

      pub inner_cut : vec_len front ≡ at → vec_len back + at ≡ vec_len xs + vec_len others → length ys ≡ vec_len others → (key : Option K) → MatchOption key (at ≡ vec_len xs + vec_len others) (λ l. (at < vec_len xs + vec_len others) × ((d : Child K V Z) × ((d ≡ get_or (xs.items ++ ys) at d) × (l ≡ d.least)))) → IsCut cmp at (merged (inner height xs) (inner height others)) (inner height front) (inner height back) key
      inner_cut len back_len same_len key at_key = record {
        entries = cut_entries;
        height = refl;
        back_height = refl;
        len = len;
        back_len = back_len;
        parted = by_key key at_key;
      }
        where
          by_key : (key : Option K) → MatchOption key (at ≡ vec_len xs + vec_len others) (λ l. (at < vec_len xs + vec_len others) × ((d : Child K V Z) × ((d ≡ get_or (xs.items ++ ys) at d) × (l ≡ d.least)))) → MatchOption key (vec_len back ≡ 0) (λ l. (0 < vec_len back) × EachBelow cmp l (entries_of (branches front.items)) × NoneBelow cmp l (entries_of (branches back.items)))
          by_key None h = omega (arith, h, back_len)
          by_key (Some l) h =
              let d = h.1.0 in
              let within : at < length (xs.items ++ ys) = omega (arith, h.0, length-append xs.items ys, xs.ok.0, same_len) in
              let seam : branches back.items ≡ (d.least, d.node.value) ∷ branches (drop (suc at) (xs.items ++ ys)) = ap branches (b ∙ rest_at (xs.items ++ ys) at d within h.1.1.0) in
              let right = children_right cmp height (branches front.items) (branches back.items) parts in
              (omega (arith, h.0, back_len), rw h.1.1.1 (subst (AllByRecursion (λ q. EachBelow cmp q.0 (entries_of (branches front.items)))) seam (children_over cmp height (branches front.items) (branches back.items) parts)).0, rw (h.1.1.1, seam) (least_of cmp o height (d.least, d.node.value) (branches (drop (suc at) (xs.items ++ ys))) (subst (AreChildren cmp height) seam right)))
