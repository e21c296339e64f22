-- The key of the row that a change is of.
use Rattle.std.specs.Prelude.{Bool, List, None, if◌then◌else◌}
use Rattle.std.specs.List.{filter_map, zip}
use Rattle.cap_row.specs.Fields.{Fields}
use Rattle.cap_changes.specs.FieldRecord.{RecordFields}
use Rattle.cap_changes.specs.declared.row_change.RowChange.{RowChange}
use Rattle.cap_changes.specs.declared.row_change.RowChange.TheVariants as changed
use Rattle.cap_changes.specs.declared.patch.Patch.{Patch}
use Rattle.cap_changes.specs.declared.patch.Patch.TheVariants as patched

module _ {A : Type 0} where
  -- the values of the key fields, in column order
  abbrev pub key_values : List Bool → RecordFields A → Fields A
  key_values flags fields =
      filter_map (λ column. if column.0 then column.1 else None) (zip flags fields)

  abbrev pub change_key : List Bool → RowChange A → Fields A
  change_key flags (changed.Insert indirect new) = key_values flags new
  change_key flags (changed.Update indirect old new) = key_values flags old
  change_key flags (changed.Delete indirect old) = key_values flags old

  abbrev pub patch_key : List Bool → Patch A → Fields A
  patch_key flags (patched.Insert indirect new) = key_values flags new
  patch_key flags (patched.Update indirect new) = key_values flags new
  patch_key flags (patched.Delete indirect key) = key_values flags key
