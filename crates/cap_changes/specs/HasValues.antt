-- Fields that are within the limits of their storage classes.
use Rattle.std.specs.Prelude.{IfSome, All}
use Rattle.cap_value.specs.Value.{IsValue}
use Rattle.cap_changes.specs.FieldRecord.{RecordFields}
use Rattle.cap_changes.specs.declared.row_change.RowChange.{RowChange}
use Rattle.cap_changes.specs.declared.row_change.RowChange.TheVariants as changed
use Rattle.cap_changes.specs.declared.patch.Patch.{Patch}
use Rattle.cap_changes.specs.declared.patch.Patch.TheVariants as patched

module _ {A : Type 0} where
  -- each field that is defined is a value
  abbrev pub AreValues : RecordFields A → Type 0
  AreValues fields = All (λ field. IfSome field IsValue) fields

  abbrev pub HasValues : RowChange A → Type 0
  HasValues (changed.Insert indirect new) = AreValues new
  HasValues (changed.Update indirect old new) = AreValues old × AreValues new
  HasValues (changed.Delete indirect old) = AreValues old

  abbrev pub PatchHasValues : Patch A → Type 0
  PatchHasValues (patched.Insert indirect new) = AreValues new
  PatchHasValues (patched.Update indirect new) = AreValues new
  PatchHasValues (patched.Delete indirect key) = AreValues key
