-- A row put under its key in one table of a database, or taken out from under it.
use Rattle.std.specs.Prelude.{◌≡◌, ℕ, Option, Some, None, List, length}
use Rattle.cap_value.specs.Bytes.{bytes_cmp}
use Rattle.cap_row.specs.Fields.{Fields}
use Rattle.cap_row.specs.Key.{key_of}
use Rattle.cap_tree.specs.Tree.{put_entry}
use Rattle.cap_table.specs.Operation.{with_key, without}
use Rattle.cap_table.specs.Table.{TableState}
use Rattle.cap_table.specs.declared.row_ref.RowRef.TheVariants.{Key}
use Rattle.cap_database.specs.Tables.{Tables, table_of}

module _ {A : Type 0} where
  -- the table with this row under the key, or with none
  abbrev pub with_row : TableState A → Fields A → Option (Fields A) → TableState A
  with_row table key None = without table (Key key)
  with_row table key (Some row) = with_key table key row

  abbrev pub set_in : Tables A → List ℕ → Fields A → Option (Fields A) → Option (TableState A) → Tables A
  set_in tables name key row None = tables
  set_in tables name key row (Some table) = put_entry bytes_cmp tables name (with_row table key row)

  -- the database whose table of the name has this row under the key, or none
  abbrev pub row_set : Tables A → List ℕ → Fields A → Option (Fields A) → Tables A
  row_set tables name key row = set_in tables name key row (table_of tables name)

  -- a row that may be stored under the key in the table of the name: it has the table's width, and the key is
  -- its own
  abbrev pub IsOwnRow : Tables A → List ℕ → Fields A → Fields A → Type 0
  IsOwnRow tables name key row =
      (table : TableState A) → table_of tables name ≡ Some table → (length row ≡ length table.schema)
      × (key_of table.schema row ≡ Some key)
