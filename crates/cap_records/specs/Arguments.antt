-- The names of a table and of a row as arguments.
use Rattle.std.specs.Prelude.{ℕ, Bool, List, length, Result, Ok, ◌==◌, ◌&&◌, not, if◌then◌else◌}
use Rattle.std.specs.Global.{Global}
use Rattle.cap_table.specs.declared.row_ref.RowRef.{RowRef}
use Rattle.cap_table.specs.declared.row_ref.RowRef.TheVariants.{Key, Loose}
use Rattle.cap_records.specs.Fault.{malformed, meant, ◌>>=◌}
use Rattle.cap_records.specs.Names.{is_name_text}
use Rattle.cap_records.specs.Record.{key_in}
use Rattle.cap_records.specs.declared.fault.RecordFault.{RecordFault}

-- a row is named by its key, or where it has none by its id, which is not 0
abbrev pub names_row : ℕ → List ℕ → Bool
names_row id key = if length key == 0 then not (id == 0) else id == 0

-- the row of that name
abbrev pub row_named : ℕ → List ℕ → Result (RowRef Global) RecordFault
row_named id key = if id == 0 then malformed (key_in key) >>= (λ key. Ok (Key key)) else Ok (Loose id)

-- the name of a table; bytes that are none are misuse
abbrev pub table_argument : List ℕ → Result (List ℕ) RecordFault
table_argument table = meant (is_name_text table) (Ok table)

-- the names of a table and of a row of it; bytes that are no name, and a key beside an id or in place of
-- none, are misuse
abbrev pub row_argument : List ℕ → List ℕ → ℕ → Result (List ℕ × RowRef Global) RecordFault
row_argument table key id =
    meant (is_name_text table && names_row id key) (row_named id key >>= (λ row. Ok (table, row)))
