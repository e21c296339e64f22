-- The inverse of a changeset (The Session Extension, "sqlite3changeset_invert").
use Rattle.std.specs.Prelude.{Bool, List}
use Rattle.cap_changes.specs.Made.{list_of}
use Rattle.cap_changes.specs.Patch.{update_record}
use Rattle.cap_changes.specs.Group.{TableChanges}
use Rattle.cap_changes.specs.declared.row_change.RowChange.{RowChange}
use Rattle.cap_changes.specs.declared.row_change.RowChange.TheVariants.{Insert, Update, Delete}

module _ {A : Type 0} where
  -- An INSERT for a DELETE and a DELETE for an INSERT; an UPDATE has the modified fields of its two records
  -- swapped, and the key fields stay in the old one. The indirect flag stays.
  abbrev pub inverse_of : List Bool → RowChange A → RowChange A
  inverse_of flags (Insert indirect new) = Delete indirect new
  inverse_of flags (Update indirect old new) =
      Update indirect (update_record flags old new) (update_record flags new old)
  inverse_of flags (Delete indirect old) = Insert indirect old

  -- the inverse of each change, in the same order
  abbrev pub inverse_list_of : List (TableChanges A) → List (TableChanges A)
  inverse_list_of groups = list_of inverse_of groups
