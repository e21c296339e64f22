-- Two records of one row: the fields of both together, and those that differ.
use Rattle.std.specs.Prelude.{Bool, true, false, List, Option, Some, None, map, not}
use Rattle.std.specs.Prelude.{◌&&◌, ◌||◌, if◌then◌else◌}
use Rattle.std.specs.List.{zip, list_any}
use Rattle.cap_value.specs.declared.value.Value.{Value}
use Rattle.cap_value.specs.Value.{value_eq}
use Rattle.cap_changes.specs.Column.{by_column}
use Rattle.cap_changes.specs.FieldRecord.{RecordFields}
use Rattle.cap_changes.specs.declared.row_change.RowChange.{RowChange}
use Rattle.cap_changes.specs.declared.row_change.RowChange.TheVariants.{Update}

module _ {A : Type 0} where
  -- the field above, or where it is undefined the one below
  abbrev pub field_over : Option (Value A) → Option (Value A) → Option (Value A)
  field_over below None = below
  field_over below (Some value) = Some value

  -- the fields of the record above, and those of the one below where they are undefined
  abbrev pub record_over : RecordFields A → RecordFields A → RecordFields A
  record_over below above = map (λ fields. field_over fields.0 fields.1) (zip below above)

  abbrev pub field_eq : Option (Value A) → Option (Value A) → Bool
  field_eq None None = true
  field_eq None (Some after) = false
  field_eq (Some before) None = false
  field_eq (Some before) (Some after) = value_eq before after

  -- a column outside the key whose fields differ
  abbrev pub is_modified : Bool → Option (Value A) → Option (Value A) → Bool
  is_modified key before after = not key && not (field_eq before after)

  -- the key fields and the modified fields, as they were
  abbrev pub old_field : Bool → Option (Value A) → Option (Value A) → Option (Value A)
  old_field key before after = if key || is_modified key before after then before else None

  -- the modified fields, as they are then
  abbrev pub new_field : Bool → Option (Value A) → Option (Value A) → Option (Value A)
  new_field key before after = if is_modified key before after then after else None

  -- in the old record, or in the new one
  abbrev pub field_of : Bool → Bool → Option (Value A) → Option (Value A) → Option (Value A)
  field_of old key before after = if old then old_field key before after else new_field key before after

  -- whether a field outside the key differs
  abbrev pub differ : List Bool → RecordFields A → RecordFields A → Bool
  differ flags before after = list_any (λ modified. modified) (by_column is_modified flags before after)

  -- the UPDATE from one record to another, none where no field outside the key differs
  abbrev pub update_between : List Bool → Bool → RecordFields A → RecordFields A → Option (RowChange A)
  update_between flags indirect before after =
      if differ flags before after
      then Some (Update indirect (by_column old_field flags before after)
      (by_column new_field flags before after))
      else None
