-- The way from the root down to a leaf: of each node on it the children that are still to come, the highest
-- node first.
use Rattle.std.specs.Prelude.{ℕ, ◌-◌, ◌<◌, List, [], ◌∷◌, ◌++◌, length}
use Rattle.std.specs.Borrow.{Bor}
use Rattle.std.specs.List.{AllByRecursion}
use Rattle.cap_tree.specs.declared.node.Child.{Child}
use Rattle.cap_tree.specs.Shape.{branches, entries_of}

module _ {K V Z : Type 0} where
  -- the entries that are still to come
  abbrev pub pending : List (Bor (List (Child K V Z))) → List (K × V)
  pending [] = []
  pending (children ∷ path) = pending path ++ entries_of (branches children.now)

  -- children that have entries and are lower than the room
  abbrev pub FitInto : ℕ → List (Child K V Z) → Type 0
  FitInto room children =
      AllByRecursion (λ p. (0 < length p.1.entries) × (p.1.height < room)) (branches children)

  -- children of nodes, each with as much room below it as its children are high
  abbrev pub IsPath : ℕ → List (Bor (List (Child K V Z))) → Type 0
  IsPath room [] = Unit {0}
  IsPath room (children ∷ path) = FitInto room children.now × IsPath (room - 1) path
