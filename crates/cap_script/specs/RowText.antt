-- The text of rows.
use Rattle.std.specs.Prelude.{ℕ, List, [], ◌∷◌, ◌++◌, Option, Some, None, Result, Ok, Err, codes, decimal}
use Rattle.std.specs.Prelude.{length}
use Rattle.cap_value.specs.declared.refusal.Refusal.{Refusal}
use Rattle.cap_row.specs.Fields.{Fields}
use Rattle.cap_table.specs.declared.row_ref.RowRef.{RowRef}
use Rattle.cap_table.specs.declared.row_ref.RowRef.TheVariants.{Key, Loose}
use Rattle.cap_database.specs.Snapshot.{SnapshotState}
use Rattle.cap_database.specs.Read.{read, rows_of}
use Rattle.cap_show.specs.ShowText.{value_text}
use Rattle.cap_script.specs.RefusalText.{no_transaction_text, refusal_text}
use Rattle.cap_script.specs.declared.line.Show.{Show}
use Rattle.cap_script.specs.declared.line.Show.TheVariants.{Get, Scan, Step}

module _ {A : Type 0} where
  -- with a comma before each
  abbrev pub more_values : Fields A → List ℕ
  more_values [] = []
  more_values (value ∷ values) = codes "," ++ value_text value ++ more_values values

  abbrev pub values_text : Fields A → List ℕ
  values_text [] = []
  values_text (value ∷ values) = value_text value ++ more_values values

  abbrev pub row_text : Fields A → List ℕ
  row_text row = codes "(" ++ values_text row ++ codes ")"

  -- a row without a key is printed after its id
  abbrev pub named_row_text : RowRef A × Fields A → List ℕ
  named_row_text (Key key, row) = row_text row
  named_row_text (Loose id, row) = codes "loose " ++ decimal id ++ codes " " ++ row_text row

  -- each on a line of its own, after the line before
  abbrev pub rows_text : List (RowRef A × Fields A) → List ℕ
  rows_text [] = []
  rows_text (row ∷ rows) = 10 ∷ named_row_text row ++ rows_text rows

  abbrev pub get_text : Result (Option (Fields A)) Refusal → List ℕ
  get_text (Ok (Some row)) = codes "row " ++ row_text row
  get_text (Ok None) = codes "no row"
  get_text (Err why) = codes "refused: " ++ refusal_text why

  abbrev pub scan_text : Result (List (RowRef A × Fields A)) Refusal → List ℕ
  scan_text (Ok rows) = codes "rows " ++ decimal (length rows) ++ rows_text rows
  scan_text (Err why) = codes "refused: " ++ refusal_text why

  -- The text of a snapshot. A step of a transaction reads one where no transaction is open.
  abbrev pub snapshot_text : Show A → SnapshotState A → List ℕ
  snapshot_text (Get table row) snapshot = get_text (read snapshot.database table row)
  snapshot_text (Scan table) snapshot = scan_text (rows_of snapshot.database table)
  snapshot_text (Step step) snapshot = no_transaction_text
  snapshot_text show snapshot = codes "ok"
