-- What is read of tables.
use Rattle.std.specs.Prelude.{ℕ, List, [], take, Option, Some, None, Result, Ok, Err}
use Rattle.std.specs.BTreeMap.Range.{entries_from}
use Rattle.std.specs.Global.{Global}
use Rattle.cap_value.specs.declared.refusal.Refusal.{Refusal}
use Rattle.cap_value.specs.declared.refusal.Refusal.TheVariants.{NoTable}
use Rattle.cap_row.specs.Key.{fields_cmp}
use Rattle.cap_table.specs.Table.{TableState}
use Rattle.cap_table.specs.declared.row_ref.RowRef.{RowRef}
use Rattle.cap_table.specs.declared.row_ref.RowRef.TheVariants.{Key, Loose}
use Rattle.cap_database.specs.Read.{read, rows_of}
use Rattle.cap_database.specs.Tables.{Tables, table_of}
use Rattle.cap_records.specs.Arguments.{row_argument, table_argument}
use Rattle.cap_records.specs.Fault.{refused, ◌>>=◌}
use Rattle.cap_records.specs.Rows.{RowCursorState, begin}
use Rattle.cap_records.specs.WithIds.{IdRow, id_rows, keyed_rows, one_row}
use Rattle.cap_records.specs.declared.fault.RecordFault.{RecordFault}

-- a cursor before the first of the rows
abbrev pub over : {X : Type 0} → (X → List IdRow) → Result X Refusal → Result RowCursorState RecordFault
over rows answer = refused answer >>= (λ x. Ok (begin (rows x)))

-- the row of a name in a table, or its absence
abbrev pub get_in : Tables Global → List ℕ → List ℕ → ℕ → Result RowCursorState RecordFault
get_in tables table key id = do
  names ← row_argument table key id
  over (one_row names.1) (read tables names.0 names.1)

-- all rows of a table, those with a key in the order of their keys, and then the others by their ids
abbrev pub scan_in : Tables Global → List ℕ → Result RowCursorState RecordFault
scan_in tables table = do
  name ← table_argument table
  over id_rows (rows_of tables name)

-- the rows with a key that is not below this one, in the order of their keys, at most so many
abbrev pub rows_from : RowRef Global → ℕ → TableState Global → List IdRow
rows_from (Key key) limit table = take limit (keyed_rows (entries_from (fields_cmp key) table.keyed))
rows_from (Loose id) limit table = []

abbrev pub there : Option (TableState Global) → Result (TableState Global) Refusal
there None = Err NoTable
there (Some table) = Ok table

abbrev pub scan_from_in : Tables Global → List ℕ → List ℕ → ℕ → Result RowCursorState RecordFault
scan_from_in tables table key limit = do
  names ← row_argument table key 0
  over (rows_from names.1 limit) (there (table_of tables names.0))
