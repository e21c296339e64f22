-- The children of a node while they are split or refilled.
use Rattle.std.specs.Prelude.{◌≡◌, ℕ, ◌+◌, ◌^◌, ◌<◌, List, length}
use Rattle.std.specs.declared.cmp.Ordering.{Ordering}
use Rattle.cap_tree.specs.Subtree.{Branch}
use Rattle.cap_tree.specs.Tree.{IsOrdered}
use Rattle.cap_tree.specs.Shape.{entries_of, items_at, place, AreChildren, AreFit}

module _ {K V : Type 0} where
  -- what holds of the children of each node
  pub record AreSiblings (cmp : K → K → Ordering) (height : ℕ) (ps : List (Branch K V)) : Type 0 where
    pub children : AreChildren cmp height ps
    pub fit : AreFit ps
    pub ordered : IsOrdered cmp (entries_of ps)
    pub fits : length (entries_of ps) < 2 ^ 64

  -- the same entries under other children
  pub record IsRearrangement (cmp : K → K → Ordering) (height : ℕ)
      (old new : List (Branch K V)) : Type 0 where
    pub entries : entries_of new ≡ entries_of old
    pub children : AreChildren cmp height new
    pub fit : AreFit new

  -- what the number of items of the child at i is
  abbrev pub HasItems : (ℕ → Type 0) → ℕ → List (Branch K V) → Type 0
  HasItems P i ps = (d : Branch K V) → P (items_at i d ps)

  -- the key belongs to the child at i, and its number of items is right
  pub record IsReady (cmp : K → K → Ordering) (key : K) (P : ℕ → Type 0) (ps : List (Branch K V))
      (i : ℕ) : Type 0 where
    pub within : i < length ps
    pub place : place cmp key ps ≡ i + 1
    pub items : HasItems P i ps
