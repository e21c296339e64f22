-- Rows that an operation leaves under one key.
use Rattle.std.specs.Prelude.{ℕ, Bool, false, Option, None, List, length, get_or, not, ◌==◌, if◌then◌else◌}
use Rattle.std.specs.List.{list_any}
use Rattle.cap_value.specs.declared.value.Value.{Value}
use Rattle.cap_row.specs.Fields.{Fields}
use Rattle.cap_row.specs.Key.{key_of}
use Rattle.cap_table.specs.Table.{TableState}

module _ {A : Type 0} where
  -- the key of a new row of this table, none without one or where the row has another width
  abbrev pub new_key : TableState A → Fields A → Option (Fields A)
  new_key table row = if length row == length table.schema then key_of table.schema row else None

  -- no field is of a key column, so that an update with them leaves the key
  abbrev pub keeps_key : List Bool → List (ℕ × Value A) → Bool
  keeps_key flags fields = not (list_any (λ field. get_or flags field.0 false) fields)
