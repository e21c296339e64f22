-- What is appended where there is a change.
use Rattle.std.specs.Prelude.{◌≡◌, ℕ, Bool, List, ◌++◌, Option, is_some}
use Rattle.std.specs.List.{flat_map}
use Rattle.std.specs.Option.{option_to_list}
use Rattle.cap_changes.specs.ChangeBytes.{change_bytes}
use Rattle.cap_changes.specs.declared.row_change.RowChange.{RowChange}

module _ {A : Type 0} where
  -- the bytes of the change, if there is one, are appended
  abbrev pub IsPut : Bool → List ℕ → List ℕ → Option (RowChange A) → Type 0
  IsPut some old new change =
      (new ≡ old ++ flat_map change_bytes (option_to_list change)) × (some ≡ is_some change)
