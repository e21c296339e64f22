-- Whether a change fits the schema of its table (one key flag for each column): exactly the required fields
-- are defined.
use Rattle.std.specs.Prelude.{Bool, List, ◌&&◌}
use Rattle.cap_changes.specs.Requirements.{requirements, new_requirements, satisfy}
use Rattle.cap_changes.specs.declared.row_change.RowChange.{RowChange}
use Rattle.cap_changes.specs.declared.row_change.RowChange.TheVariants as changed
use Rattle.cap_changes.specs.declared.patch.Patch.{Patch}
use Rattle.cap_changes.specs.declared.patch.Patch.TheVariants as patched
use Rattle.cap_changes.specs.declared.record_kind.RecordKind.TheVariants as record_kinds

module _ {A : Type 0} where
  -- a change of a changeset
  abbrev pub change_fits : List Bool → RowChange A → Bool
  change_fits flags (changed.Insert indirect new) = satisfy (requirements record_kinds.Full flags) new
  change_fits flags (changed.Update indirect old new) =
      satisfy (requirements record_kinds.Keyed flags) old && satisfy (new_requirements flags old) new
  change_fits flags (changed.Delete indirect old) = satisfy (requirements record_kinds.Full flags) old

  -- a change of a patchset
  abbrev pub patch_fits : List Bool → Patch A → Bool
  patch_fits flags (patched.Insert indirect new) = satisfy (requirements record_kinds.Full flags) new
  patch_fits flags (patched.Update indirect new) = satisfy (requirements record_kinds.Keyed flags) new
  patch_fits flags (patched.Delete indirect key) = satisfy (requirements record_kinds.KeyAlone flags) key
