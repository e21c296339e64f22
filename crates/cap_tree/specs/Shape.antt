-- What the items of a node are seen as, and what holds of them.
use Rattle.std.specs.Prelude.{◌≡◌, ℕ, ◌+◌, ◌*◌, ◌^◌, ◌<◌, ◌≤◌, ◌≢◌, List, [], ◌∷◌, ◌++◌, length, vec_len}
use Rattle.std.specs.Prelude.{slice_index_or, map}
use Rattle.std.specs.declared.cmp.Ordering.{Ordering}
use Rattle.std.specs.declared.vec.Vec.{Vec}
use Rattle.cap_tree.specs.Subtree.{Subtree, Branch}
use Rattle.std.specs.declared.cmp.Ordering.TheVariants.{Greater}
use Rattle.std.specs.Ordering.{match_ordering}
use Rattle.std.specs.List.{AllByRecursion}
use Rattle.std.specs.Map.{keys_of}
use Rattle.cap_tree.specs.declared.node.Child.{Child}
use Rattle.cap_tree.specs.declared.node.Link.{Link}
use Rattle.cap_tree.specs.declared.node.Link.TheVariants.{Leaf, Inner}

module _ {K V : Type 0} where
  -- the entries of the children, one child after another
  abbrev pub entries_of : List (Branch K V) → List (K × V)
  entries_of [] = []
  entries_of (p ∷ ps) = p.1.entries ++ entries_of ps

  -- how many items the child at i has
  abbrev pub items_at : ℕ → Branch K V → List (Branch K V) → ℕ
  items_at i d ps = (slice_index_or ps i d).1.items

  -- as many entries as so many items at this height can have, with four to sixteen items in each node below
  abbrev pub IsFilled : Subtree K V → Type 0
  IsFilled c = (c.items * 4 ^ c.height ≤ length c.entries) × (length c.entries ≤ c.items * 16 ^ c.height)

  -- neither too full nor too underfull
  abbrev pub IsFit : Subtree K V → Type 0
  IsFit c = (4 ≤ c.items) × (c.items ≤ 16) × IsFilled c

  -- each child is neither too full nor too underfull
  abbrev pub AreFit : List (Branch K V) → Type 0
  AreFit ps = AllByRecursion (λ p. IsFit p.1) ps

  -- a child one level down, which has some entry
  abbrev pub IsChild : ℕ → Subtree K V → Type 0
  IsChild height c = (c.height + 1 ≡ height) × (0 < length c.entries)

  module _ (cmp : K → K → Ordering) where
    -- no key of the entries is below k
    abbrev pub NoneBelow : K → List (K × V) → Type 0
    NoneBelow k es = AllByRecursion (λ y. cmp k y ≢ Greater) (keys_of es)

    -- each key of the entries is below k
    abbrev pub EachBelow : K → List (K × V) → Type 0
    EachBelow k es = AllByRecursion (λ y. cmp k y ≡ Greater) (keys_of es)

    -- children of one height, each from its own least key on and below the least keys of those that follow
    abbrev pub AreChildren : ℕ → List (Branch K V) → Type 0
    AreChildren height [] = Unit {0}
    AreChildren height (p ∷ ps) =
        IsChild height p.1 × NoneBelow p.0 p.1.entries × AllByRecursion (λ q. EachBelow q.0 p.1.entries) ps
        × AreChildren height ps

    -- how many of the children, from the first on, are not above k
    abbrev pub place : K → List (Branch K V) → ℕ
    place k [] = 0
    place k (p ∷ ps) = match_ordering (cmp k p.0) 0 (place k ps + 1) (place k ps + 1)

module _ {K V Z : Type 0} where
  abbrev pub branches : List (Child K V Z) → List (Branch K V)
  branches children = map (λ p. (p.least, p.node.value)) children

  -- the children of a node at this height: up to sixteen, and count entries
  pub record IsInner (cmp : K → K → Ordering) (h n : ℕ) (items : Vec (Child K V Z) Z) : Type 0 where
    pub high : 0 < h
    pub most : vec_len items ≤ 16
    pub children : AreChildren cmp h (branches items.items)
    pub fit : AreFit (branches items.items)
    pub count : n ≡ length (entries_of (branches items.items))

  abbrev pub IsNode : (K → K → Ordering) → Link K V Z → Type 0
  IsNode cmp (Leaf entries) = vec_len entries ≤ 16
  IsNode cmp (Inner height count children) = IsInner cmp height count children

  -- a leaf with these entries
  abbrev pub leaf : Vec (K × V) Z → Subtree K V
  leaf entries = record { entries = entries.items; height = 0; items = vec_len entries }

  -- a node with these children
  abbrev pub inner : ℕ → Vec (Child K V Z) Z → Subtree K V
  inner height children = record {
    entries = entries_of (branches children.items);
    height = height;
    items = vec_len children;
  }

  abbrev pub shape : Link K V Z → Subtree K V
  shape (Leaf entries) = leaf entries
  shape (Inner height count children) = inner height children
