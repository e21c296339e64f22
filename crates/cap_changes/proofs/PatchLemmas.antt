-- The patch of a change that fits its table fits it too.
use Rattle.std.proofs.Common.{◌≡◌, List, ◌∷◌, Bool, true, arith}
use Rattle.cap_changes.specs.FieldRecord.{RecordFields}
use Rattle.cap_changes.specs.Requirements.{requirements, new_requirements, satisfy}
use Rattle.cap_changes.specs.Fits.{change_fits, patch_fits}
use Rattle.cap_changes.specs.Patch.{patch_of, key_record, update_record}
use Rattle.cap_changes.specs.declared.row_change.RowChange.{RowChange}
use Rattle.cap_changes.specs.declared.row_change.RowChange.TheVariants.{Insert, Update, Delete}
use Rattle.cap_changes.specs.declared.record_kind.RecordKind.TheVariants as record_kinds

module _ {A : Type 0} where
  pub update_fits : (flags : List Bool) (old new : RecordFields A) → satisfy (requirements record_kinds.Keyed flags) old ≡ true → satisfy (new_requirements flags old) new ≡ true →
      satisfy (requirements record_kinds.Keyed flags) (update_record flags old new) ≡ true
  update_fits (key ∷ flags) (before ∷ old) (after ∷ new) met met' = grind (arith, update_fits flags old new)
  update_fits flags old new met met' = grind arith

  key_fits : (flags : List Bool) (old : RecordFields A) → satisfy (requirements record_kinds.Full flags) old ≡ true →
      satisfy (requirements record_kinds.KeyAlone flags) (key_record flags old) ≡ true
  key_fits (key ∷ flags) (field ∷ old) met = grind (arith, key_fits flags old)
  key_fits flags old met = grind arith

  pub patch_of-fits : (flags : List Bool) (change : RowChange A) → change_fits flags change ≡ true → patch_fits flags (patch_of flags change) ≡ true
  patch_of-fits flags (Insert indirect new) fit = fit
  patch_of-fits flags (Update indirect old new) fit = grind (arith, update_fits flags old new)
  patch_of-fits flags (Delete indirect old) fit = key_fits flags old fit
