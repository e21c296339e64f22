-- What two changes of one row are together fits the table that both fit, and its fields are values.
use Rattle.std.proofs.Common.{◌≡◌, List, Bool, Option, true}
use Rattle.std.specs.Prelude.{IfSome, IsTrue}
use Rattle.std.proofs.lemmas.Option.{IfSome_then}
use Rattle.cap_row.specs.Fields.{Fields}
use Rattle.cap_changes.specs.Fits.{change_fits}
use Rattle.cap_changes.specs.HasValues.{HasValues}
use Rattle.cap_changes.specs.declared.row_change.RowChange.{RowChange}
use Rattle.cap_group.specs.ChangeKey.{change_key}
use Rattle.cap_group.specs.Combined.{KeepRows, combined}
use Rattle.cap_group.proofs.FitLemmas.{combined_keep}

pub keeps_values : {A X : Type 0} (fits : List Bool → X → Bool) (key : List Bool → X → Fields A) (Values : X → Type 0) (combine : List Bool → X → X → Option X) → KeepRows fits key Values combine →
    (flags : List Bool) (present added : X) → IsTrue (fits flags present) → IsTrue (fits flags added) → Values present → Values added → IfSome (combine flags present added) (λ change. IsTrue (fits flags change) × Values change)
keeps_values fits key Values combine keeps flags present added fit fit' p q = IfSome_then (combine flags present added) (keeps flags present added fit fit') (λ one is. (is.fit, is.values p q))

pub combined_values : {A : Type 0} (flags : List Bool) (present added : RowChange A) → change_fits flags present ≡ true → change_fits flags added ≡ true → HasValues present → HasValues added →
    IfSome (combined flags present added) (λ change. IsTrue (change_fits flags change) × HasValues change)
combined_values = keeps_values change_fits change_key HasValues combined combined_keep
