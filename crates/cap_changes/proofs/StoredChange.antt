-- Changes as their bytes.
use Rattle.std.proofs.Common.{◌≡◌, ℕ, Bool, List, IsTrue}
use Rattle.cap_changes.specs.ChangeBytes.{change_bytes, patch_bytes}
use Rattle.cap_changes.specs.ChangeReading.{stored_change, stored_patch}
use Rattle.cap_changes.specs.Fits.{change_fits, patch_fits}
use Rattle.cap_changes.specs.HasValues.{HasValues, PatchHasValues}
use Rattle.cap_changes.specs.Spelling.{SpellsChange, SpellsPatch}
use Rattle.cap_changes.specs.declared.row_change.RowChange.{RowChange}
use Rattle.cap_changes.specs.declared.patch.Patch.{Patch}
use Rattle.cap_changes.specs.Stored.{IsEntry}
use Rattle.cap_changes.proofs.Grammar.{entry, written_so, changes, patches}

module _ {A : Type 0} where
  pub change_written : (flags : List Bool) (change : RowChange A) → IsTrue (change_fits flags change) → HasValues change → SpellsChange flags change (change_bytes change)
  change_written flags change fits values = written_so changes flags change fits values

  pub change_entry : (flags : List Bool) (change : RowChange A) (bytes : List ℕ) → IsTrue (change_fits flags change) → HasValues change → bytes ≡ change_bytes change
      → (stored_change flags bytes ≡ change) × IsEntry {C = RowChange A} change_fits HasValues change_bytes flags (stored_change flags bytes) bytes
  change_entry flags change bytes fits values spelled = entry changes flags change bytes fits values spelled

  pub patch_written : (flags : List Bool) (patch : Patch A) → IsTrue (patch_fits flags patch) → PatchHasValues patch → SpellsPatch flags patch (patch_bytes patch)
  patch_written flags patch fits values = written_so patches flags patch fits values

  pub patch_entry : (flags : List Bool) (patch : Patch A) (bytes : List ℕ) → IsTrue (patch_fits flags patch) → PatchHasValues patch → bytes ≡ patch_bytes patch
      → (stored_patch flags bytes ≡ patch) × IsEntry {C = Patch A} patch_fits PatchHasValues patch_bytes flags (stored_patch flags bytes) bytes
  patch_entry flags patch bytes fits values spelled = entry patches flags patch bytes fits values spelled
