-- The way down to the child among whose entries a key belongs, and a path with the children of one more node at its end.
use Rattle.std.proofs.Common.{◌≡◌, ℕ, ◌+◌, ◌-◌, ◌<◌, ◌≤◌, suc, List, [], ◌∷◌, ◌++◌, length, drop, Bor, refl, ap, ◌∙◌, sym, subst, append_assoc, length-append, ◌*◌, ◌^◌, arith, lit<, zero, take, length-drop}
use Rattle.std.proofs.lemmas.List.{append-nil, get_or-append-add, nil_from_length, take-append-drop}
use Rattle.std.specs.declared.cmp.Ordering.{Ordering}
use Rattle.std.specs.BTreeMap.Range.{entries_from}
use Rattle.std.specs.Cmp.{IsTotalOrder}
use Rattle.cap_tree.specs.declared.node.Child.{Child}
use Rattle.std.proofs.Math.Nat.{mul-le-mul_right}
use Rattle.cap_tree.specs.declared.node.Link.{Link}
use Rattle.cap_tree.specs.declared.node.Link.TheVariants.{Leaf, Inner}
use Rattle.cap_tree.proofs.BranchLemmas.{children_filled, less_power, below_children, place_zero, place_step, children_right, gap_at, above_front, below_back, get_below, from_below}
use Rattle.cap_tree.proofs.SiblingLemmas.{length_branches, cut, front_length}
use Rattle.cap_tree.specs.Subtree.{Subtree, Branch}
use Rattle.cap_tree.specs.Path.{pending, FitInto, IsPath}
use Rattle.cap_tree.specs.Shape.{branches, shape, entries_of, IsNode, AreChildren, place}
use Rattle.std.specs.declared.cmp.Ordering.TheVariants.{Less, Greater}
use Rattle.std.specs.Prelude.{Option, Some, None, IfNone, IfSome, slice_get}
use Rattle.std.proofs.lemmas.Option.{get_or_from_slice_get, slice_get_read, slice_get_within}
use Rattle.cap_tree.specs.Tree.{IsOrdered, get}
use Rattle.cap_tree.proofs.EntryLemmas.{Each}
use Rattle.cap_tree.proofs.SiblingLemmas as siblings

-- a key is above the entries in front of the branch at its place, and below those behind
around_place : {K V : Type 0} (cmp : K → K → Ordering) (o : IsTotalOrder cmp) (k : K) (height : ℕ) (front : List (Branch K V)) (p : Branch K V) (back : List (Branch K V)) → AreChildren cmp height (front ++ p ∷ back) → place cmp k (front ++ p ∷ back) - 1 ≡ length front → Each cmp Greater k (entries_of front) × Each cmp Less k (entries_of back)
around_place cmp o k height [] p back h is = (tt, below_back cmp o k height [] p back h (first (place cmp k (p ∷ back)) refl is))
  where
    first : (n : ℕ) → place cmp k (p ∷ back) ≡ n → n - 1 ≡ 0 → place cmp k back ≡ 0
    first zero is none = place_zero cmp o k back (below_children cmp o k height (p ∷ back) h is).1
    first (suc n) is none = (place_step cmp o k p back 0 (is ∙ omega arith)).0
around_place cmp o k height (q ∷ qs) p back h is =
    let gap = gap_at cmp o k (q ∷ qs) p back (suc (length qs)) (omega (arith, is)) refl in
    (above_front cmp o k height (q ∷ qs) p back h gap.here, below_back cmp o k height (q ∷ qs) p back h gap.none)

-- the last element, with others in front
last_entry : {X : Type 0} (front es : List X) (e : X) → slice_get es (length es - 1) ≡ Some e → slice_get (front ++ es) (length (front ++ es) - 1) ≡ Some e
last_entry front es e h =
    let some = slice_get_within es (length es - 1) e h in
    let there : length (front ++ es) - 1 ≡ length front + (length es - 1) = omega (arith, length-append front es) in
    slice_get_read (front ++ es) (length (front ++ es)) (length (front ++ es) - 1) e refl (omega (arith, length-append front es)) (rw there (sym (get_or-append-add front es (length es - 1) e ∙ get_or_from_slice_get es (length es - 1) e e h)))

module _ {K V Z : Type 0} (cmp : K → K → Ordering) (children : List (Child K V Z)) (n : ℕ) (child : Child K V Z) (rest : List (Child K V Z)) (there : drop n children ≡ child ∷ rest) where
  whole : branches children ≡ branches (take n children) ++ (child.least, child.node.value) ∷ branches rest
  whole = cut children (take n children) (child ∷ rest) (sym (take-append-drop n children) ∙ ap (λ t. take n children ++ t) there)

  pub child_ordered : IsOrdered cmp (entries_of (branches children)) → IsOrdered cmp child.node.value.entries
  child_ordered s = siblings.child_ordered cmp (branches children) (branches (take n children)) (branches rest) (child.least, child.node.value) whole s

  pub child_and_rest : (height : ℕ) → AreChildren cmp height (branches children) → AreChildren cmp height (branches (child ∷ rest))
  child_and_rest height h = children_right cmp height (branches (take n children)) (branches (child ∷ rest)) (subst (AreChildren cmp height) whole h)

  module _ (o : IsTotalOrder cmp) (k : K) (height : ℕ) (h : AreChildren cmp height (branches children)) (is : place cmp k (branches children) - 1 ≡ n) where
    parted : AreChildren cmp height (branches (take n children) ++ branches (child ∷ rest))
    parted = subst (AreChildren cmp height) whole h

    sides : Each cmp Greater k (entries_of (branches (take n children))) × Each cmp Less k (entries_of (branches rest))
    sides =
        let length_of : n ≡ length (branches (take n children)) = front_length children n (omega (arith, length-drop n children, ap length there)) in
        around_place cmp o k height (branches (take n children)) (child.least, child.node.value) (branches rest) parted (ap (λ l. place cmp k l - 1) (sym whole) ∙ is ∙ length_of)

    pub get_child : get cmp (entries_of (branches children)) k ≡ get cmp child.node.value.entries k
    get_child = ap (λ l. get cmp (entries_of l) k) whole ∙ get_below cmp k o height (branches (take n children)) (child.least, child.node.value) (branches rest) parted sides.0 sides.1

    pub from_child : entries_from (cmp k) (entries_of (branches children)) ≡ entries_from (cmp k) child.node.value.entries ++ entries_of (branches rest)
    from_child = ap (λ l. entries_from (cmp k) (entries_of l)) whole ∙ from_below cmp k o height (branches (take n children)) (child.least, child.node.value) (branches rest) parted sides.0 sides.1

module _ {K V Z : Type 0} where
  -- ---- the last child

  fed_last : (cmp : K → K → Ordering) (height : ℕ) (front : List (Child K V Z)) (child : Child K V Z) → AreChildren cmp height (branches (front ++ child ∷ [])) → 0 < length child.node.value.entries
  fed_last cmp height front child h = (children_right cmp height (branches front) (branches (child ∷ [])) (subst (AreChildren cmp height) (cut (front ++ child ∷ []) front (child ∷ []) refl) h)).0.1

  entries_to_last : (front : List (Child K V Z)) (child : Child K V Z) → entries_of (branches (front ++ child ∷ [])) ≡ entries_of (branches front) ++ child.node.value.entries
  entries_to_last [] child = append-nil child.node.value.entries
  entries_to_last (x ∷ xs) child = ap (λ t. x.node.value.entries ++ t) (entries_to_last xs child) ∙ sym (append_assoc x.node.value.entries (entries_of (branches xs)) child.node.value.entries)

  module _ (cmp : K → K → Ordering) (height : ℕ) (children front : List (Child K V Z)) (child : Child K V Z) (is : children ≡ front ++ child ∷ []) where
    pub last_none : {X : Type 0} (r : Option X) → AreChildren cmp height (branches children) → IfNone r (child.node.value.entries ≡ []) → IfNone r (entries_of (branches children) ≡ [])
    last_none None h none =
        let fed = fed_last cmp height front child (subst (λ l. AreChildren cmp height (branches l)) is h) in
        absurd (omega (arith, ap length none))
    last_none (Some x) h none = tt

    pub last_some : {X : Type 0} (r : Option X) (entry : X → K × V) → IfSome r (λ x. slice_get child.node.value.entries (length child.node.value.entries - 1) ≡ Some (entry x)) → IfSome r (λ x. slice_get (entries_of (branches children)) (length (entries_of (branches children)) - 1) ≡ Some (entry x))
    last_some None entry h = tt
    last_some (Some x) entry h = rw (is, entries_to_last front child) (last_entry (entries_of (branches front)) child.node.value.entries (entry x) h)

-- the entries from a key on are no more than all
pub length-entries_from : {K V : Type 0} (compare : K → Ordering) (es : List (K × V)) → length (entries_from compare es) ≤ length es
length-entries_from compare [] = omega arith
length-entries_from compare (e ∷ es) = grind (arith, length-entries_from compare es)

all_room : (room : ℕ) → room - 0 ≡ room
all_room room = omega arith

module _ {K V Z : Type 0} where
  pub pending-push : (path : List (Bor (List (Child K V Z)))) (children : Bor (List (Child K V Z))) → pending (path ++ children ∷ []) ≡ entries_of (branches children.now) ++ pending path
  pending-push [] children = sym (append-nil (entries_of (branches children.now)))
  pending-push (x ∷ xs) children = ap (λ t. t ++ entries_of (branches x.now)) (pending-push xs children) ∙ append_assoc (entries_of (branches children.now)) (pending xs) (entries_of (branches x.now))

  less_room : (room : ℕ) (xs : List (Bor (List (Child K V Z)))) → room - suc (length xs) ≡ room - 1 - length xs
  less_room room xs = omega arith

  pub path_push : (room : ℕ) (path : List (Bor (List (Child K V Z)))) (children : Bor (List (Child K V Z))) → IsPath room path → FitInto (room - length path) children.now → IsPath room (path ++ children ∷ [])
  path_push room [] children p f = (subst (λ r. FitInto r children.now) (all_room room) f, tt)
  path_push room (x ∷ xs) children p f = (p.0, path_push (room - 1) xs children p.1 (subst (λ r. FitInto r children.now) (less_room room xs) f))

  path_pop : (room : ℕ) (path : List (Bor (List (Child K V Z)))) (children : Bor (List (Child K V Z))) → IsPath room (path ++ children ∷ []) → IsPath room path × FitInto (room - length path) children.now
  path_pop room [] children p = (tt, subst (λ r. FitInto r children.now) (sym (all_room room)) p.0)
  path_pop room (x ∷ xs) children p = let rest = path_pop (room - 1) xs children p.1 in ((p.0, rest.0), subst (λ r. FitInto r children.now) (sym (less_room room xs)) rest.1)

  -- children of a node that is no higher than the room fit
  pub children_fit : (cmp : K → K → Ordering) (height room : ℕ) (children : List (Child K V Z)) → AreChildren cmp height (branches children) → height ≤ room → FitInto room children
  children_fit cmp height room [] h low = tt
  children_fit cmp height room (x ∷ xs) h low = ((h.0.1, omega (arith, h.0.0)), children_fit cmp height room xs h.3 low)

  all_entries : (path : List (Bor (List (Child K V Z)))) (rest : Bor (List (Child K V Z))) (front : List (K × V)) → front ++ pending (path ++ rest ∷ []) ≡ (front ++ entries_of (branches rest.now)) ++ pending path
  all_entries path rest front = ap (λ t. front ++ t) (pending-push path rest) ∙ sym (append_assoc front (entries_of (branches rest.now)) (pending path))

  -- ---- behind a path there is room for a child and for the children behind it

  module _ (path : List (Bor (List (Child K V Z)))) (child : Child K V Z) (rest : Bor (List (Child K V Z))) (fit : FitInto (32 - length path) (child ∷ rest.now)) where
    pub down_room : length path < 32
    down_room = let f = fit in omega (arith, f.0.1)

    pub down_path : IsPath 32 path → IsPath 32 (path ++ rest ∷ [])
    down_path p = path_push 32 path rest p fit.1

    pub down_fits : length (path ++ rest ∷ []) + child.node.value.height ≤ 32
    down_fits = let f = fit in omega (arith, f.0.1, length-append path (rest ∷ []))

  -- those of a node that is no higher than the room
  module _ (cmp : K → K → Ordering) (height : ℕ) (children : List (Child K V Z)) (n : ℕ) (child : Child K V Z) (rest : Bor (List (Child K V Z))) (there : drop n children ≡ child ∷ rest.now) (h : AreChildren cmp height (branches children)) where
    pub down_lower : child.node.value.height < height
    down_lower = let t = child_and_rest cmp children n child rest.now there height h in omega (arith, t.0.0)

    pub down_fit : (path : List (Bor (List (Child K V Z)))) → length path + height ≤ 32 → FitInto (32 - length path) (child ∷ rest.now)
    down_fit path fits = children_fit cmp height (32 - length path) (child ∷ rest.now) (child_and_rest cmp children n child rest.now there height h) (omega (arith, fits))

  -- to the first child
  pub down_first : (children : List (Child K V Z)) (child : Child K V Z) (rest : Bor (List (Child K V Z))) → children ≡ child ∷ rest.now → (path : List (Bor (List (Child K V Z)))) → child.node.value.entries ++ pending (path ++ rest ∷ []) ≡ entries_of (branches children) ++ pending path
  down_first children child rest is path = all_entries path rest child.node.value.entries ∙ ap (λ l. entries_of (branches l) ++ pending path) (sym is)

  -- to the child among whose entries the key belongs
  pub down_key : (cmp : K → K → Ordering) → IsTotalOrder cmp → (k : K) (height : ℕ) (children : List (Child K V Z)) (child : Child K V Z) (rest : Bor (List (Child K V Z))) → drop (place cmp k (branches children) - 1) children ≡ child ∷ rest.now → AreChildren cmp height (branches children) → (path : List (Bor (List (Child K V Z)))) → entries_from (cmp k) child.node.value.entries ++ pending (path ++ rest ∷ []) ≡ entries_from (cmp k) (entries_of (branches children)) ++ pending path
  down_key cmp o k height children child rest there h path =
      all_entries path rest (entries_from (cmp k) child.node.value.entries)
      ∙ ap (λ t. t ++ pending path) (sym (from_child cmp children (place cmp k (branches children) - 1) child rest.now there o k height h refl))

  -- ---- to the first child of the node that comes last on the path

  module _ (path whole : List (Bor (List (Child K V Z)))) (children : Bor (List (Child K V Z))) (is : whole ≡ path ++ children ∷ []) where
    pub next_path : IsPath 32 whole → IsPath 32 path × FitInto (32 - length path) children.now
    next_path p = path_pop 32 path children (subst (IsPath 32) is p)

    pub next_none : length children.now ≡ 0 → pending path ≡ pending whole
    next_none none = sym (ap pending is ∙ pending-push path children ∙ rw (nil_from_length children.now none))

    pub next_pending : (child : Child K V Z) (rest : Bor (List (Child K V Z))) → children.now ≡ child ∷ rest.now → child.node.value.entries ++ pending (path ++ rest ∷ []) ≡ pending whole
    next_pending child rest first = down_first children.now child rest first path ∙ sym (ap pending is ∙ pending-push path children)

  -- ---- how high a node is whose entries can be counted

  pub is_low : (cmp : K → K → Ordering) (link : Link K V Z) (node : Subtree K V) → shape link ≡ node → IsNode cmp link → length node.entries < 2 ^ 64 → (0 < node.height → 0 < node.items) → node.height < 32
  is_low cmp (Leaf entries) node is h fits top = rw (← is) (lit< tt)
  is_low cmp (Inner height count children) node is h fits top =
      let filled = (children_filled cmp height (branches children.items) h.children h.fit).0 in
      let items = top (omega (arith, h.high, ap (λ n. n.height) is)) in
      let some : 1 * 4 ^ height ≤ length (branches children.items) * 4 ^ height = mul-le-mul_right (4 ^ height) (omega (arith, items, ap (λ n. n.items) is, children.ok.0, length_branches children.items)) in
      let all : length (entries_of (branches children.items)) < 2 ^ 64 = rw (← ap (λ n. n.entries) is) at fits in
      let low : height < 32 = less_power 4 height 32 (lit< tt) (omega (arith, filled, some, all)) in
      rw (← ap (λ n. n.height) is) low
