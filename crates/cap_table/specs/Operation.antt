-- One operation on one table: the table that it leaves, or the first refusal that applies.
use Rattle.std.specs.Prelude.{ℕ, ◌+◌, ◌^◌, Option, Some, None, Result, Ok, Err, Bool, List, [], length}
use Rattle.std.specs.Prelude.{is_some, nat_lt, ◌==◌, if◌then◌else◌}
use Rattle.std.specs.Ordering.{nat_cmp}
use Rattle.cap_value.specs.declared.refusal.Refusal.{Refusal}
use Rattle.cap_value.specs.declared.refusal.Refusal.TheVariants.{WrongWidth, BadColumn, Duplicate, NoRow}
use Rattle.cap_value.specs.declared.refusal.Refusal.TheVariants.{IdsSpent}
use Rattle.cap_value.specs.declared.value.Value.{Value}
use Rattle.cap_row.specs.Fields.{Fields}
use Rattle.cap_row.specs.Key.{fields_cmp, fields_eq, key_of}
use Rattle.cap_row.specs.Row.{are_columns, columns_of, row_with}
use Rattle.cap_tree.specs.Tree.{get, put_entry, take_entry}
use Rattle.cap_table.specs.declared.row_ref.RowRef.{RowRef}
use Rattle.cap_table.specs.declared.row_ref.RowRef.TheVariants.{Key, Loose}
use Rattle.cap_table.specs.Table.{TableState}

module _ {A : Type 0} where
  -- a table without rows, whose first id is 1
  abbrev pub empty_table : List Bool → TableState A
  empty_table schema = record { schema = schema; keyed = []; loose = []; next_id = 1 }

  -- the row of this name
  abbrev pub row_of : TableState A → RowRef A → Option (Fields A)
  row_of table (Key key) = get fields_cmp table.keyed key
  row_of table (Loose id) = get nat_cmp table.loose id

  -- the key of the row of this name, none of a loose row
  abbrev pub key_of_name : RowRef A → Option (Fields A)
  key_of_name (Key key) = Some key
  key_of_name (Loose id) = None

  abbrev pub with_key : TableState A → Fields A → Fields A → TableState A
  with_key table key row = record table { keyed = put_entry fields_cmp table.keyed key row }

  abbrev pub with_id : TableState A → ℕ → Fields A → TableState A
  with_id table id row = record table { loose = put_entry nat_cmp table.loose id row }

  abbrev pub without : TableState A → RowRef A → TableState A
  without table (Key key) = record table { keyed = take_entry fields_cmp table.keyed key }
  without table (Loose id) = record table { loose = take_entry nat_cmp table.loose id }

  -- a row under a key that no row has
  abbrev pub under_key : Bool → TableState A → Fields A → Fields A → Result (TableState A) Refusal
  under_key taken table key row = if taken then Err Duplicate else Ok (with_key table key row)

  -- a row under the next id, which is then given
  abbrev pub under_next_id : TableState A → Fields A → Result (TableState A) Refusal
  under_next_id table row =
      if nat_lt table.next_id (2 ^ 63)
      then Ok (record (with_id table table.next_id row) { next_id = table.next_id + 1 }) else Err IdsSpent

  -- a new row, under its key if it has one
  abbrev pub placed : TableState A → Fields A → Option (Fields A) → Result (TableState A) Refusal
  placed table row (Some key) = under_key (is_some (get fields_cmp table.keyed key)) table key row
  placed table row None = under_next_id table row

  -- an INSERT: refused for its width, and then for its key or for want of an id
  abbrev pub insert_row : TableState A → Fields A → Result (TableState A) Refusal
  insert_row table row =
      if length row == length table.schema then placed table row (key_of table.schema row) else Err WrongWidth

  -- a row that keeps its key stays under it, and one that changes it needs a key that no row has
  abbrev pub rekeyed : TableState A → Fields A → Fields A → Fields A → Result (TableState A) Refusal
  rekeyed table old row new =
      if fields_eq old new then Ok (with_key table new row)
      else under_key (is_some (get fields_cmp table.keyed new)) (without table (Key old)) new row

  -- a keyed row that loses its key takes the next id, a loose row that gets one gives its id up, and one that
  -- stays loose keeps it
  abbrev pub moved : TableState A → RowRef A → Fields A → Option (Fields A) → Result (TableState A) Refusal
  moved table (Key old) row (Some new) = rekeyed table old row new
  moved table (Key old) row None = under_next_id (without table (Key old)) row
  moved table (Loose id) row (Some new) =
      under_key (is_some (get fields_cmp table.keyed new)) (without table (Loose id)) new row
  moved table (Loose id) row None = Ok (with_id table id row)

  -- an UPDATE of the row under this name, if there is one
  abbrev pub updated : TableState A → RowRef A → List (ℕ × Value A) → Option (Fields A)
      → Result (TableState A) Refusal
  updated table name changes None = Err NoRow
  updated table name changes (Some row) =
      moved table name (row_with changes row) (key_of table.schema (row_with changes row))

  -- an UPDATE: refused for a column, then for the row, and then for the key or for want of an id
  abbrev pub update_row : TableState A → RowRef A → List (ℕ × Value A) → Result (TableState A) Refusal
  update_row table name changes =
      if are_columns (length table.schema) (columns_of changes)
      then updated table name changes (row_of table name) else Err BadColumn

  -- a DELETE: refused for the row
  abbrev pub delete_row : TableState A → RowRef A → Result (TableState A) Refusal
  delete_row table name = if is_some (row_of table name) then Ok (without table name) else Err NoRow

  -- what a delete is refused, always before memory is needed
  abbrev pub refused_delete : TableState A → RowRef A → Option Refusal
  refused_delete table name = if is_some (row_of table name) then None else Some NoRow

  -- what an insert is refused before its key is made
  abbrev pub refused_insert : TableState A → Fields A → Option Refusal
  refused_insert table row = if length row == length table.schema then None else Some WrongWidth

  -- what an update is refused before its new row is made
  abbrev pub refused_update : TableState A → RowRef A → List (ℕ × Value A) → Option Refusal
  refused_update table name changes =
      if are_columns (length table.schema) (columns_of changes)
      then (if is_some (row_of table name) then None else Some NoRow) else Some BadColumn
