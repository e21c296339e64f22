-- The changes of one row in changesets, and changesets of which each begins from the rows that the one before
-- it leaves.
use Rattle.std.specs.Prelude.{◌≡◌, ℕ, Bool, List, [], Option, Some, None, flat_map, if◌then◌else◌}
use Rattle.std.specs.List.{AllByRecursion, cons_option}
use Rattle.std.specs.Option.{ForSome}
use Rattle.cap_value.specs.Bytes.{bytes_eq}
use Rattle.cap_row.specs.Fields.{Fields}
use Rattle.cap_changes.specs.Group.{TableChanges}
use Rattle.cap_changes.specs.declared.row_change.RowChange.{RowChange}
use Rattle.cap_group.specs.ChangeKey.{change_key}
use Rattle.cap_group.specs.Combined.{combined}
use Rattle.cap_group.specs.Rows.{Follow, IsRowUnder, changes_of_row, together}

module _ {A : Type 0} where
  -- the changes of the row under a key of a table in a changeset
  abbrev pub row_changes : List ℕ → Fields A → List (TableChanges A) → List (RowChange A)
  row_changes name key groups =
      flat_map (λ group.
      if bytes_eq group.table name then changes_of_row change_key group.schema key group.changes else [])
      groups

  -- the same in changesets, one after the other
  abbrev pub all_row_changes : List ℕ → Fields A → List (List (TableChanges A)) → List (RowChange A)
  all_row_changes name key lists = flat_map (row_changes name key) lists

  -- The tables of the changesets have these columns, and the changes of each row, one after the other, lead
  -- from what it was first, or its absence, to what it is last.
  pub record AreInARow (columns : List ℕ → Option (List Bool))
      (first last : List ℕ → Fields A → Option (Fields A)) (lists : List (List (TableChanges A)))
      : Type 0 where
    pub schemas : AllByRecursion
        (λ groups. AllByRecursion (λ group. columns group.table ≡ Some group.schema) groups) lists
    pub under : (name : List ℕ) (flags : List Bool) (key : Fields A) → columns name ≡ Some flags
        → ForSome (first name key) (IsRowUnder flags key)
    pub rows : (name : List ℕ) (flags : List Bool) (key : Fields A) → columns name ≡ Some flags
        → Follow flags key (first name key) (all_row_changes name key lists) (last name key)

  -- A changeset has of each row of the tables with these columns what its changes in others are together, and
  -- no change of another table.
  pub record HasTogether (columns : List ℕ → Option (List Bool)) (lists : List (List (TableChanges A)))
      (groups : List (TableChanges A)) : Type 0 where
    pub rows : (name : List ℕ) (flags : List Bool) (key : Fields A) → columns name ≡ Some flags
        → row_changes name key groups
        ≡ cons_option (together combined flags (all_row_changes name key lists)) []
    pub others : (name : List ℕ) (key : Fields A) → columns name ≡ None → row_changes name key groups ≡ []
