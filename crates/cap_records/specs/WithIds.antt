-- Rows with their ids.
use Rattle.std.specs.Prelude.{ℕ, List, [], ◌∷◌, map, Option, Some, None}
use Rattle.std.specs.Global.{Global}
use Rattle.cap_row.specs.Fields.{Fields}
use Rattle.cap_table.specs.declared.row_ref.RowRef.{RowRef}
use Rattle.cap_table.specs.declared.row_ref.RowRef.TheVariants.{Key, Loose}

-- a row with its id, or with 0 where it has a key
abbrev pub IdRow : Type 0
IdRow = ℕ × Fields Global

abbrev pub id_of : RowRef Global → ℕ
id_of (Key key) = 0
id_of (Loose id) = id

abbrev pub id_rows : List (RowRef Global × Fields Global) → List IdRow
id_rows rows = map (λ row. (id_of row.0, row.1)) rows

-- the row of a name, where there is one
abbrev pub one_row : RowRef Global → Option (Fields Global) → List IdRow
one_row name None = []
one_row name (Some row) = (id_of name, row) ∷ []

-- the rows of entries by key
abbrev pub keyed_rows : List (Fields Global × Fields Global) → List IdRow
keyed_rows entries = map (λ entry. (0, entry.1)) entries
