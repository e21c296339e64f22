-- What the root of a tree is seen as, and what holds of it.
use Rattle.std.specs.Prelude.{◌<◌, ◌≤◌, Option, Some, None, List, []}
use Rattle.std.specs.declared.sync.Arc.{Arc}
use Rattle.cap_tree.specs.Subtree.{Subtree}

-- a root that is no leaf has two children at least
abbrev pub IsTop : {K V : Type 0} → Subtree K V → Type 0
IsTop node = 0 < node.height → 2 ≤ node.items

module _ {K V Z : Type 0} where
  -- the entries in order
  abbrev pub root_entries : Option (Arc (Subtree K V) Z) → List (K × V)
  root_entries None = []
  root_entries (Some node) = node.value.entries

  abbrev pub IsRoot : Option (Arc (Subtree K V) Z) → Type 0
  IsRoot None = Unit {0}
  IsRoot (Some node) = IsTop node.value
