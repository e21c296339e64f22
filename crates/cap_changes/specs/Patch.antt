-- The patchset of a changeset (The Session Extension, "sqlite3session_patchset").
use Rattle.std.specs.Prelude.{Bool, List, None, map, if◌then◌else◌}
use Rattle.std.specs.List.{zip}
use Rattle.cap_changes.specs.Column.{by_column}
use Rattle.cap_changes.specs.FieldRecord.{RecordFields}
use Rattle.cap_changes.specs.Group.{TableChanges}
use Rattle.cap_changes.specs.Made.{group_of, list_of}
use Rattle.cap_changes.specs.PatchGroup.{TablePatches}
use Rattle.cap_changes.specs.declared.row_change.RowChange.{RowChange}
use Rattle.cap_changes.specs.declared.row_change.RowChange.TheVariants as changed
use Rattle.cap_changes.specs.declared.patch.Patch.{Patch}
use Rattle.cap_changes.specs.declared.patch.Patch.TheVariants as patched

module _ {A : Type 0} where
  -- the key fields of the old record, and the modified fields' new values
  abbrev pub update_record : List Bool → RecordFields A → RecordFields A → RecordFields A
  update_record flags old new = by_column (λ key before after. if key then before else after) flags old new

  -- the key fields only
  abbrev pub key_record : List Bool → RecordFields A → RecordFields A
  key_record flags old = map (λ column. if column.0 then column.1 else None) (zip flags old)

  abbrev pub patch_of : List Bool → RowChange A → Patch A
  patch_of flags (changed.Insert indirect new) = patched.Insert indirect new
  patch_of flags (changed.Update indirect old new) = patched.Update indirect (update_record flags old new)
  patch_of flags (changed.Delete indirect old) = patched.Delete indirect (key_record flags old)

  -- the patch of each change, in the same order
  abbrev pub patches_of : TableChanges A → TablePatches A
  patches_of group = group_of patch_of group

  abbrev pub patch_list_of : List (TableChanges A) → List (TablePatches A)
  patch_list_of groups = list_of patch_of groups
