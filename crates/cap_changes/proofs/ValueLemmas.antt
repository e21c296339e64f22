-- The fields of inverses and of patches are values, as those of the changes are.
use Rattle.std.proofs.Common.{arith, List, ◌∷◌, Bool, IfSome}
use Rattle.std.proofs.lemmas.List.Elements.{recursion_from_All, All-from_recursion}
use Rattle.cap_value.specs.Value.{IsValue}
use Rattle.cap_changes.specs.FieldRecord.{RecordFields}
use Rattle.cap_changes.specs.HasValues.{AreValues, HasValues, PatchHasValues}
use Rattle.cap_changes.specs.Invert.{inverse_of}
use Rattle.cap_changes.specs.Patch.{patch_of, key_record, update_record}
use Rattle.cap_changes.specs.Record.{AreFields}
use Rattle.cap_changes.specs.declared.row_change.RowChange.{RowChange}
use Rattle.cap_changes.specs.declared.row_change.RowChange.TheVariants.{Insert, Update, Delete}

module _ {A : Type 0} where
  pub each_of : (fields : RecordFields A) → AreValues fields → AreFields fields
  each_of fields values = recursion_from_All (λ field. IfSome field IsValue) fields values

  pub values_of : (fields : RecordFields A) → AreFields fields → AreValues fields
  values_of fields each = All-from_recursion (λ field. IfSome field IsValue) fields each

  pub update_each : (flags : List Bool) (old new : RecordFields A) → AreFields old → AreFields new → AreFields (update_record flags old new)
  update_each (key ∷ flags) (before ∷ old) (after ∷ new) a b = grind (arith, update_each flags old new)
  update_each flags old new a b = tt

  key_each : (flags : List Bool) (old : RecordFields A) → AreFields old → AreFields (key_record flags old)
  key_each (key ∷ flags) (field ∷ old) a = grind (arith, key_each flags old)
  key_each flags old a = tt

  update_values : (flags : List Bool) (old new : RecordFields A) → AreValues old → AreValues new → AreValues (update_record flags old new)
  update_values flags old new a b = values_of (update_record flags old new) (update_each flags old new (each_of old a) (each_of new b))

  pub inverse_values : (flags : List Bool) (change : RowChange A) → HasValues change → HasValues (inverse_of flags change)
  inverse_values flags (Update indirect old new) values = (update_values flags old new values.0 values.1, update_values flags new old values.1 values.0)
  inverse_values flags change values = values

  pub patch_values : (flags : List Bool) (change : RowChange A) → HasValues change → PatchHasValues (patch_of flags change)
  patch_values flags (Insert indirect new) values = values
  patch_values flags (Update indirect old new) values = update_values flags old new values.0 values.1
  patch_values flags (Delete indirect old) values = values_of (key_record flags old) (key_each flags old (each_of old values))
