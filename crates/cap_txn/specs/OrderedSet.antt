-- A list in which each item stands once, in the order in which the items came first.
use Rattle.std.specs.Prelude.{◌≡◌, ⊤, ℕ, ◌+◌, Some, List, [], ◌∷◌, ◌++◌, if◌then◌else◌}
use Rattle.std.specs.List.{list_any}
use Rattle.std.specs.Ordering.{eq_by_cmp}
use Rattle.std.specs.declared.cmp.Ordering.{Ordering}
use Rattle.cap_tree.specs.Tree.{get}

module _ {K : Type 0} (cmp : K → K → Ordering) where
  -- the item last, unless it is there
  abbrev pub with_item : List K → K → List K
  with_item items item = if list_any (eq_by_cmp cmp item) items then items else items ++ item ∷ []

  -- the items one after another
  abbrev pub with_each : List K → List K → List K
  with_each items [] = items
  with_each items (item ∷ more) = with_each (with_item items item) more

  -- each item's place, counted from n, is known
  abbrev pub AreKnown : List (K × ℕ) → ℕ → List K → Type 0
  AreKnown places n [] = ⊤
  AreKnown places n (item ∷ items) = (get cmp places item ≡ Some n) × AreKnown places (n + 1) items
