-- What is read of a database.
use Rattle.std.specs.Prelude.{◌≡◌, ℕ, Option, Some, None, option_and_then, Result, Ok, Err, List}
use Rattle.std.specs.Borrow.{Bor}
use Rattle.std.specs.Option.{option_copied}
use Rattle.cap_value.specs.declared.refusal.Refusal.{Refusal}
use Rattle.cap_value.specs.declared.refusal.Refusal.TheVariants.{NoTable}
use Rattle.cap_row.specs.Fields.{Fields}
use Rattle.cap_row.specs.Key.{fields_cmp}
use Rattle.cap_tree.specs.Tree.{get}
use Rattle.cap_table.specs.Table.{TableState}
use Rattle.cap_table.specs.Operation.{row_of}
use Rattle.cap_table.specs.Scan.{rows}
use Rattle.cap_table.specs.declared.row_ref.RowRef.{RowRef}
use Rattle.cap_database.specs.Tables.{Tables, table_of}

module _ {A : Type 0} where
  -- the row with this primary key, or its absence
  abbrev pub row_at : Tables A → List ℕ → Fields A → Option (Fields A)
  row_at tables table key = option_and_then (λ t. get fields_cmp t.keyed key) (table_of tables table)

  abbrev pub read_in : Option (TableState A) → RowRef A → Result (Option (Fields A)) Refusal
  read_in None name = Err NoTable
  read_in (Some table) name = Ok (row_of table name)

  -- the row of this name in a table, or its absence
  abbrev pub read : Tables A → List ℕ → RowRef A → Result (Option (Fields A)) Refusal
  read tables table name = read_in (table_of tables table) name

  abbrev pub rows_in : Option (TableState A) → Result (List (RowRef A × Fields A)) Refusal
  rows_in None = Err NoTable
  rows_in (Some table) = Ok (rows table)

  -- all rows of a table
  abbrev pub rows_of : Tables A → List ℕ → Result (List (RowRef A × Fields A)) Refusal
  rows_of tables table = rows_in (table_of tables table)

  -- a call lends just the row that is answered, or gives just this refusal
  abbrev pub Lends : Result (Option (Bor (Fields A))) Refusal → Result (Option (Fields A)) Refusal → Type 0
  Lends (Ok row) answer = answer ≡ Ok (option_copied row)
  Lends (Err why) answer = answer ≡ Err why
