-- Changes in place.
use Rattle.cap_changes.specs.declared.change_ref.ChangeRef.{ChangeRef}
use Rattle.cap_changes.specs.declared.change_ref.ChangeRef.TheVariants as change_refs
use Rattle.cap_changes.specs.declared.change_ref.PatchRef.{PatchRef}
use Rattle.cap_changes.specs.declared.change_ref.PatchRef.TheVariants as patch_refs
use Rattle.cap_changes.specs.declared.row_change.RowChange.{RowChange}
use Rattle.cap_changes.specs.declared.row_change.RowChange.TheVariants as changed
use Rattle.cap_changes.specs.declared.patch.Patch.{Patch}
use Rattle.cap_changes.specs.declared.patch.Patch.TheVariants as patched

module _ {A : Type 0} where
  -- the change of a reference
  abbrev pub change_of : ChangeRef A → RowChange A
  change_of (change_refs.Insert indirect new) = changed.Insert indirect new
  change_of (change_refs.Update indirect old new) = changed.Update indirect old new
  change_of (change_refs.Delete indirect old) = changed.Delete indirect old

  -- the same of a patchset
  abbrev pub patch_of : PatchRef A → Patch A
  patch_of (patch_refs.Insert indirect new) = patched.Insert indirect new
  patch_of (patch_refs.Update indirect new) = patched.Update indirect new
  patch_of (patch_refs.Delete indirect key) = patched.Delete indirect key
