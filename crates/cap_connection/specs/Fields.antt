-- What is at a position of a blob: the table, the change, and its fields (The Session Extension,
-- "sqlite3changeset_op", "sqlite3changeset_old" and "sqlite3changeset_new").
use Rattle.std.specs.Prelude.{ℕ, zero, suc, Bool, false, List, [], ◌++◌, Option, Some, None}
use Rattle.std.specs.Prelude.{slice_get, slice_index_or, if◌then◌else◌}
use Rattle.std.specs.Option.{option_and_then, option_flatten, option_map}
use Rattle.cap_value.specs.declared.value.Value.{Value}
use Rattle.cap_changes.specs.Entries.{TableEntries}
use Rattle.cap_changes.specs.FieldRecord.{RecordFields}
use Rattle.cap_changes.specs.declared.patch.Patch.{Patch}
use Rattle.cap_changes.specs.declared.patch.Patch.TheVariants as patched
use Rattle.cap_changes.specs.declared.row_change.RowChange.{RowChange}
use Rattle.cap_changes.specs.declared.row_change.RowChange.TheVariants as changed
use Rattle.cap_changes.specs.Field.{field_bytes}
use Rattle.cap_changes.specs.declared.operation.Operation.TheVariants as does
use Rattle.cap_codec.specs.declared.read.Contents.{Contents}
use Rattle.cap_codec.specs.declared.read.Contents.TheVariants.{Changes, Patches}
use Rattle.cap_connection.specs.declared.iter_fields.ChangeHead.{ChangeHead}
use Rattle.cap_connection.specs.declared.iter_position.Position.{Position}
use Rattle.cap_connection.specs.declared.iter_record.Side.{Side}
use Rattle.cap_connection.specs.declared.iter_record.Side.TheVariants.{Old, New}

-- what a group says, where there is one
abbrev pub in_group : {X Y : Type 0} → (TableEntries X → Y) → List (TableEntries X) → ℕ → Option Y
in_group read groups group = option_map read (slice_get groups group)

-- what a change says, where there is one
abbrev pub entry_at : {X Y : Type 0} → (TableEntries X → X → Option Y) → List (TableEntries X) → Position →
    Option Y
entry_at read groups position = option_and_then
    (λ group. option_and_then (λ entry. read group entry) (slice_get group.changes position.change))
    (slice_get groups position.group)

module _ {A : Type 0} where
  -- the table's name
  abbrev pub table_at : Contents A → ℕ → Option (List ℕ)
  table_at (Changes list) group = in_group (λ it. it.table) list group
  table_at (Patches list) group = in_group (λ it. it.table) list group

  -- the table's key flags
  abbrev pub schema_at : Contents A → ℕ → Option (List Bool)
  schema_at (Changes list) group = in_group (λ it. it.schema) list group
  schema_at (Patches list) group = in_group (λ it. it.schema) list group

  -- what a change does, and whether it is indirect
  abbrev pub head_of_change : RowChange A → ChangeHead
  head_of_change (changed.Insert indirect new) = record { operation = does.Insert; indirect = indirect }
  head_of_change (changed.Update indirect old new) = record { operation = does.Update; indirect = indirect }
  head_of_change (changed.Delete indirect old) = record { operation = does.Delete; indirect = indirect }

  abbrev pub head_of_patch : Patch A → ChangeHead
  head_of_patch (patched.Insert indirect new) = record { operation = does.Insert; indirect = indirect }
  head_of_patch (patched.Update indirect new) = record { operation = does.Update; indirect = indirect }
  head_of_patch (patched.Delete indirect key) = record { operation = does.Delete; indirect = indirect }

  abbrev pub head_at : Contents A → Position → Option ChangeHead
  head_at (Changes list) position =
      entry_at (λ group change. Some (head_of_change change)) list position
  head_at (Patches list) position =
      entry_at (λ group patch. Some (head_of_patch patch)) list position

  -- the value of a column, where it is defined
  abbrev pub field : RecordFields A → ℕ → Option (Value A)
  field record_fields column = option_flatten (slice_get record_fields column)

  -- before the change
  abbrev pub change_old : RowChange A → ℕ → Option (Value A)
  change_old (changed.Insert indirect new) column = None
  change_old (changed.Update indirect old new) column = field old column
  change_old (changed.Delete indirect old) column = field old column

  -- after the change
  abbrev pub change_new : RowChange A → ℕ → Option (Value A)
  change_new (changed.Insert indirect new) column = field new column
  change_new (changed.Update indirect old new) column = field new column
  change_new (changed.Delete indirect old) column = None

  -- An UPDATE of a patchset has its key fields alone before the change.
  abbrev pub patch_old : List Bool → Patch A → ℕ → Option (Value A)
  patch_old flags (patched.Insert indirect new) column = None
  patch_old flags (patched.Update indirect new) column =
      if slice_index_or flags column false then field new column else None
  patch_old flags (patched.Delete indirect key) column = field key column

  abbrev pub patch_new : List Bool → Patch A → ℕ → Option (Value A)
  patch_new flags (patched.Insert indirect new) column = field new column
  patch_new flags (patched.Update indirect new) column =
      if slice_index_or flags column false then None else field new column
  patch_new flags (patched.Delete indirect key) column = None

  abbrev pub old_at : Contents A → Position → ℕ → Option (Value A)
  old_at (Changes list) position column = entry_at (λ group change. change_old change column) list position
  old_at (Patches list) position column =
      entry_at (λ group patch. patch_old group.schema patch column) list position

  abbrev pub new_at : Contents A → Position → ℕ → Option (Value A)
  new_at (Changes list) position column = entry_at (λ group change. change_new change column) list position
  new_at (Patches list) position column =
      entry_at (λ group patch. patch_new group.schema patch column) list position

  abbrev pub side_at : Side → Contents A → Position → ℕ → Option (Value A)
  side_at Old contents position column = old_at contents position column
  side_at New contents position column = new_at contents position column

  -- the fields of the columns before this one, one after the other, as a record has them
  abbrev pub fields_before : (ℕ → Option (Value A)) → ℕ → List ℕ
  fields_before field zero = []
  fields_before field (suc column) = fields_before field column ++ field_bytes (field column)
