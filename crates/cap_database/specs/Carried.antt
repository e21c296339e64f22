-- The rows that the changes of a commit carry.
use Rattle.std.specs.Prelude.{◌≡◌, ℕ, Bool, ◌&&◌, Some, List}
use Rattle.std.specs.List.{find}
use Rattle.cap_value.specs.Bytes.{bytes_eq}
use Rattle.cap_row.specs.Fields.{Fields}
use Rattle.cap_table.specs.Sound.{is_key_of}
use Rattle.cap_database.specs.Read.{row_at}
use Rattle.cap_database.specs.Tables.{Tables}
use Rattle.cap_database.specs.declared.change.Change.{Change}

module _ {A : Type 0} where
  -- the change is of the row under this key of the table
  abbrev pub is_of_row : List ℕ → Fields A → Change A → Bool
  is_of_row name key change = bytes_eq name change.table && is_key_of change.key key

  -- the first change of each row carries the row that is in these tables, or its absence
  abbrev pub CarryFirstRows : Tables A → List (Change A) → Type 0
  CarryFirstRows tables changes =
      (name : List ℕ) (key : Fields A) (change : Change A) → find (is_of_row name key) changes ≡ Some change
      → change.before ≡ row_at tables name key
