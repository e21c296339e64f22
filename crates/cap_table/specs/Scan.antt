-- All rows of a table: those with a key in the order of the keys, then the others by their ids.
use Rattle.std.specs.Prelude.{ℕ, List, ◌++◌, map}
use Rattle.std.specs.Borrow.{Bor}
use Rattle.cap_row.specs.Fields.{Fields}
use Rattle.cap_table.specs.declared.row_ref.RowRef.{RowRef}
use Rattle.cap_table.specs.declared.row_ref.RowRef.TheVariants.{Key, Loose}
use Rattle.cap_table.specs.declared.row_name.RowName as row_name
use Rattle.cap_table.specs.declared.row_name.RowName.TheVariants as named
use Rattle.cap_table.specs.Table.{TableState}

module _ {A : Type 0} where
  -- the rows of a list by key, and of a list by id, each with its name
  abbrev pub rows_from : List (Fields A × Fields A) → List (ℕ × Fields A) → List (RowRef A × Fields A)
  rows_from keyed loose = map (λ row. (Key row.0, row.1)) keyed ++ map (λ row. (Loose row.0, row.1)) loose

  abbrev pub rows : TableState A → List (RowRef A × Fields A)
  rows table = rows_from table.keyed table.loose

  -- what a borrowed name shows
  abbrev pub name_shown : row_name.RowName A → RowRef A
  name_shown (named.Key key) = Key key.now
  name_shown (named.Loose id) = Loose id

  -- what a borrowed row and its name show
  abbrev pub row_shown : row_name.RowName A × Bor (Fields A) → RowRef A × Fields A
  row_shown item = (name_shown item.0, item.1.now)
