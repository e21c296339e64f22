-- Groups to which changes were added, and how they go back.
use Rattle.std.specs.Prelude.{◌≡◌, ℕ, zero, suc, List, [], ◌∷◌, Option, Some, None, length, take}
use Rattle.cap_changes.specs.Entries.{TableEntries}

module _ {X : Type 0} where
  -- changes were appended to a group
  abbrev pub IsGrown : TableEntries X → TableEntries X → Type 0
  IsGrown old new = record new { changes = take (length old.changes) new.changes } ≡ old

  -- so many changes of the group at an index
  abbrev pub cut_at : ℕ → ℕ → List (TableEntries X) → List (TableEntries X)
  cut_at index count [] = []
  cut_at zero count (group ∷ groups) = record group { changes = take count group.changes } ∷ groups
  cut_at (suc index) count (group ∷ groups) = group ∷ cut_at index count groups

  -- a step is taken back: the group at the index had so many changes, or the groups were so many
  abbrev pub taken_back : ℕ × Option ℕ → List (TableEntries X) → List (TableEntries X)
  taken_back (index, Some count) groups = cut_at index count groups
  taken_back (index, None) groups = take index groups

  -- the groups before steps, of which the last is taken back first
  abbrev pub before : List (ℕ × Option ℕ) → List (TableEntries X) → List (TableEntries X)
  before [] groups = groups
  before (step ∷ steps) groups = taken_back step (before steps groups)
