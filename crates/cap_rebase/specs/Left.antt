-- What is left of a change, as its bytes: none where nothing is left.
use Rattle.std.specs.Prelude.{ℕ, Bool, List, [], ◌∷◌, Option, Some, None}
use Rattle.cap_changes.specs.ChangeBytes.{change_bytes}
use Rattle.cap_changes.specs.ChangeReading.{stored_change}
use Rattle.cap_changes.specs.Fits.{change_fits}
use Rattle.cap_changes.specs.HasValues.{HasValues}
use Rattle.cap_changes.specs.Stored.{IsEntry}
use Rattle.cap_changes.specs.declared.row_change.RowChange.{RowChange}

module _ {A : Type 0} where
  abbrev pub change_in : List Bool → List ℕ → Option (RowChange A)
  change_in flags [] = None
  change_in flags (byte ∷ bytes) = Some (stored_change flags (byte ∷ bytes))

module _ (A : Type 0) where
  abbrev pub IsLeft : List Bool → List ℕ → Type 0
  IsLeft flags [] = Unit {0}
  IsLeft flags (byte ∷ bytes) =
      IsEntry (change_fits {A = A}) HasValues change_bytes flags (stored_change flags (byte ∷ bytes)) (byte ∷ bytes)
