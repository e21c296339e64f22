-- The change of one touched key, by its first image and its row now (The Session Extension,
-- "sqlite3session_changeset").
use Rattle.std.specs.Prelude.{◌≡◌, Bool, true, false, List, Option, Some, None, length, map, IsSome, not}
use Rattle.std.specs.Prelude.{◌&&◌, ◌||◌, if◌then◌else◌}
use Rattle.cap_value.specs.declared.value.Value.{Value}
use Rattle.cap_value.specs.Value.{value_eq}
use Rattle.cap_row.specs.Fields.{Fields}
use Rattle.cap_row.specs.Key.{key_of, fields_eq}
use Rattle.cap_changes.specs.Column.{by_column}
use Rattle.cap_changes.specs.FieldRecord.{RecordFields}
use Rattle.cap_changes.specs.declared.row_change.RowChange.{RowChange}
use Rattle.cap_changes.specs.declared.row_change.RowChange.TheVariants.{Insert, Update, Delete}

module _ {A : Type 0} where
  -- a row that can be recorded in a table with these key flags: one value for each column, and a key
  pub record IsKeyedRow (flags : List Bool) (row : Fields A) : Type 0 where
    pub wide : length row ≡ length flags
    pub keyed : IsSome (key_of flags row)

  -- two rows under one key
  abbrev pub HaveSameKey : List Bool → Fields A → Fields A → Type 0
  HaveSameKey flags before after = key_of flags before ≡ key_of flags after

  -- every field is defined
  abbrev pub full_record : Fields A → RecordFields A
  full_record row = map Some row

  -- a column outside the key whose values differ
  abbrev pub is_modified : Bool → Value A → Value A → Bool
  is_modified key image now = not key && not (value_eq image now)

  -- the key fields and the modified fields, as they were
  abbrev pub old_field : Bool → Value A → Value A → Option (Value A)
  old_field key image now = if key || is_modified key image now then Some image else None

  -- the modified fields, as they are now
  abbrev pub new_field : Bool → Value A → Value A → Option (Value A)
  new_field key image now = if is_modified key image now then Some now else None

  -- the old record of an UPDATE, or the new one
  abbrev pub side_record : Bool → List Bool → Fields A → Fields A → RecordFields A
  side_record true flags image now = by_column old_field flags image now
  side_record false flags image now = by_column new_field flags image now

  abbrev pub change_of : List Bool → Bool → Option (Fields A) → Option (Fields A) → Option (RowChange A)
  change_of flags indirect None None = None
  change_of flags indirect None (Some now) = Some (Insert indirect (full_record now))
  change_of flags indirect (Some image) None = Some (Delete indirect (full_record image))
  change_of flags indirect (Some image) (Some now) =
      if fields_eq image now
      then None
      else Some (Update indirect (by_column old_field flags image now) (by_column new_field flags image now))
