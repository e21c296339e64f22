-- A cursor over rows that were read, and the row at which it stands.
use Rattle.std.specs.Prelude.{◌≡◌, ◌<◌, ℕ, ◌+◌, Bool, true, false, List, length}
use Rattle.std.specs.Prelude.{slice_get, Option, Some, None, option_and_then}
use Rattle.std.specs.Option.{option_map}
use Rattle.std.specs.Global.{Global}
use Rattle.cap_value.specs.declared.value.Value.{Value}
use Rattle.cap_records.specs.Record.{values_bytes}
use Rattle.cap_records.specs.WithIds.{IdRow}

-- Rows, each with its id, or 0 where it has a key; the row at which the cursor stands, if any; the next one.
pub record RowCursorState : Type 0 where
  pub rows : List IdRow
  pub current : Option ℕ
  pub next : ℕ

-- before the first row
abbrev pub begin : List IdRow → RowCursorState
begin rows = record { rows = rows; current = None; next = 0 }

-- It goes to the next row. Where there is none it stands at no row.
abbrev pub Steps : RowCursorState → RowCursorState → Bool → Type 0
Steps old new true =
    (old.next < length old.rows) × (new ≡ record old { current = Some old.next; next = old.next + 1 })
Steps old new false = ¬ (old.next < length old.rows) × (new ≡ record old { current = None })

-- the row at which it stands, with its id
abbrev pub row_at : RowCursorState → Option IdRow
row_at cursor = option_and_then (λ at. slice_get cursor.rows at) cursor.current

-- the value of a column
abbrev pub value_of : RowCursorState → ℕ → Option (Value Global)
value_of cursor column = option_and_then (λ row. slice_get row.1 column) (row_at cursor)

-- its id, how many columns it has, and its record
abbrev pub id_of_row : RowCursorState → Option ℕ
id_of_row cursor = option_map (λ row. row.0) (row_at cursor)

abbrev pub columns_of : RowCursorState → Option ℕ
columns_of cursor = option_map (λ row. length row.1) (row_at cursor)

abbrev pub record_at : RowCursorState → Option (List ℕ)
record_at cursor = option_map (λ row. values_bytes row.1) (row_at cursor)
