-- The row under the key of a change, before and after it.
use Rattle.std.specs.Prelude.{ℕ, ◌+◌, ◌-◌, Bool, true, Option, Some, None, List, [], ◌∷◌, ◌++◌, length, map}
use Rattle.std.specs.Prelude.{replicate, ◌||◌, if◌then◌else◌}
use Rattle.std.specs.List.{list_all, zip}
use Rattle.std.specs.Option.{option_map, unwrap_or}
use Rattle.cap_value.specs.declared.value.Value.{Value}
use Rattle.cap_value.specs.declared.value.Value.TheVariants.{Null}
use Rattle.cap_value.specs.Value.{value_eq}
use Rattle.cap_row.specs.Fields.{Fields}
use Rattle.cap_changes.specs.FieldRecord.{RecordFields}
use Rattle.cap_changes.specs.declared.patch.Patch.{Patch}
use Rattle.cap_changes.specs.declared.patch.Patch.TheVariants.{Insert, Update, Delete}
use Rattle.cap_apply.specs.declared.conflict.ConflictKind.{ConflictKind}
use Rattle.cap_apply.specs.declared.conflict.ConflictKind.TheVariants.{Data, NotFound, Conflict}

module _ {A : Type 0} where
  -- the values of the key columns, in column order
  abbrev pub key_values : List Bool → RecordFields A → Fields A
  key_values [] fields = []
  key_values (flag ∷ flags) [] = []
  key_values (flag ∷ flags) (None ∷ fields) = key_values flags fields
  key_values (flag ∷ flags) (Some value ∷ fields) =
      if flag then value ∷ key_values flags fields else key_values flags fields

  abbrev pub key_record_of : Patch A → RecordFields A
  key_record_of (Insert indirect new) = new
  key_record_of (Update indirect new) = new
  key_record_of (Delete indirect key) = key

  -- a row of this width with these values, and NULL in the columns beyond them
  abbrev pub new_row : ℕ → RecordFields A → Fields A
  new_row width new = map (λ field. unwrap_or field Null) new ++ replicate (width - length new) Null

  -- the row with the defined fields set; all others stay
  abbrev pub set_fields : RecordFields A → Fields A → Fields A
  set_fields [] row = row
  set_fields (field ∷ fields) [] = []
  set_fields (field ∷ fields) (value ∷ row) = unwrap_or field value ∷ set_fields fields row

  -- the columns of the defined fields, each with its value
  abbrev pub assigned_from : ℕ → RecordFields A → List (ℕ × Value A)
  assigned_from column [] = []
  assigned_from column (None ∷ fields) = assigned_from (column + 1) fields
  assigned_from column (Some value ∷ fields) = (column, value) ∷ assigned_from (column + 1) fields

  -- the row under the key after the change, by the row there before
  abbrev pub row_after : ℕ → Patch A → Option (Fields A) → Option (Fields A)
  row_after width (Insert indirect new) before = Some (new_row width new)
  row_after width (Update indirect new) before = option_map (set_fields new) before
  row_after width (Delete indirect key) before = None

  -- a defined field outside the key is equal to the row's value
  abbrev pub has_old_value : Bool → Option (Value A) → Value A → Bool
  has_old_value key None value = true
  has_old_value key (Some old) value = key || value_eq old value

  -- in each column of the group
  abbrev pub has_old_values : List Bool → RecordFields A → Fields A → Bool
  has_old_values flags old row =
      list_all (λ column. has_old_value column.0 column.1.0 column.1.1) (zip flags (zip old row))

  -- the conflict of an update or a delete
  abbrev pub missed : List Bool → RecordFields A → Option (Fields A) → Option ConflictKind
  missed flags old None = Some NotFound
  missed flags old (Some row) = if has_old_values flags old row then None else Some Data

  -- the conflict of an insert
  abbrev pub taken : Option (Fields A) → Option ConflictKind
  taken None = None
  taken (Some row) = Some Conflict

  -- the conflict of a change, by the row under its key
  abbrev pub conflict_of : List Bool → RecordFields A → Patch A → Option (Fields A) → Option ConflictKind
  conflict_of flags old (Insert indirect new) before = taken before
  conflict_of flags old (Update indirect new) before = missed flags old before
  conflict_of flags old (Delete indirect key) before = missed flags old before
