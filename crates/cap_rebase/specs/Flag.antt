-- The indirect flag of a change, and its row.
use Rattle.std.specs.Prelude.{Bool, List, ◌||◌, not}
use Rattle.std.specs.List.{list_all}
use Rattle.cap_changes.specs.Column.{by_column}
use Rattle.cap_changes.specs.FieldRecord.{RecordFields}
use Rattle.cap_changes.specs.declared.row_change.RowChange.{RowChange}
use Rattle.cap_changes.specs.declared.row_change.RowChange.TheVariants.{Insert, Update, Delete}
use Rattle.cap_group.specs.Record.{field_eq}

module _ {A : Type 0} where
  -- the change with this flag
  abbrev pub flagged : Bool → RowChange A → RowChange A
  flagged flag (Insert indirect new) = Insert flag new
  flagged flag (Update indirect old new) = Update flag old new
  flagged flag (Delete indirect old) = Delete flag old

  -- the record that has the key fields
  abbrev pub key_record : RowChange A → RecordFields A
  key_record (Insert indirect new) = new
  key_record (Update indirect old new) = old
  key_record (Delete indirect old) = old

  -- both changes are of one row of a table with these key flags: their key fields are the same
  abbrev pub are_of_one_row : List Bool → RowChange A → RowChange A → Bool
  are_of_one_row flags a b = list_all (λ same. same)
      (by_column (λ key x y. not key || field_eq x y) flags (key_record a) (key_record b))
