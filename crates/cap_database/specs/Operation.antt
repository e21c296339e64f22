-- Operations on a database, one after another: all of them, or none.
use Rattle.std.specs.Prelude.{ℕ, ◌+◌, Option, Some, None}
use Rattle.std.specs.Prelude.{Result, Ok, Err, List, [], ◌∷◌, ◌++◌}
use Rattle.std.specs.Option.{option_to_list}
use Rattle.cap_value.specs.Bytes.{bytes_cmp}
use Rattle.cap_value.specs.declared.refusal.Refusal.{Refusal}
use Rattle.cap_value.specs.declared.refusal.Refusal.TheVariants.{NoTable}
use Rattle.cap_row.specs.Fields.{Fields}
use Rattle.cap_row.specs.Key.{key_of}
use Rattle.cap_row.specs.Row.{row_with}
use Rattle.cap_tree.specs.Tree.{put_entry}
use Rattle.cap_table.specs.Table.{TableState}
use Rattle.cap_table.specs.Operation.{insert_row, update_row, delete_row, row_of, key_of_name, refused_insert}
use Rattle.cap_table.specs.Operation.{refused_update, refused_delete}
use Rattle.cap_table.specs.declared.row_ref.RowRef.{RowRef}
use Rattle.cap_table.specs.declared.row_ref.RowRef.TheVariants.{Key, Loose}
use Rattle.cap_database.specs.Assigned.{Assigned}
use Rattle.cap_database.specs.Outcome.{OutcomeState}
use Rattle.cap_database.specs.Tables.{Tables, table_of}
use Rattle.cap_database.specs.declared.cause.Cause.{Cause}
use Rattle.cap_database.specs.declared.change.Change.{Change}
use Rattle.cap_database.specs.declared.op.Action.{Action}
use Rattle.cap_database.specs.declared.op.Action.TheVariants.{Insert, Update, Delete}
use Rattle.cap_database.specs.declared.op.Op.{Op}
use Rattle.cap_database.specs.declared.refused_at.RefusedAt.{RefusedAt}
use Rattle.cap_database.specs.declared.effect.Effect.{Effect}

-- a row that changes: its key, none without one, and the row that goes from under it, none where a row comes
abbrev pub Changed : Type 0 → Type 0
Changed A = Option (Fields A) × Option (Fields A)

module _ {A : Type 0} where
  -- the table after an operation on it
  abbrev pub act : TableState A → Action A → Result (TableState A) Refusal
  act table (Insert row) = insert_row table row
  act table (Update name fields) = update_row table name fields
  act table (Delete name) = delete_row table name

  -- the row of this name, where it has a key
  abbrev pub keyed_row : RowRef A → Option (Fields A) → Option (Fields A)
  keyed_row (Key key) row = row
  keyed_row (Loose id) row = None

  -- the row of this name goes
  abbrev pub goes : RowRef A → Option (Fields A) → Changed A
  goes name row = (key_of_name name, keyed_row name row)

  -- what an update changes: the old row goes, and then the new row comes, also where their keys are equal
  abbrev pub updated_rows : TableState A → RowRef A → Assigned A → Option (Fields A) → List (Changed A)
  updated_rows table name fields None = []
  updated_rows table name fields (Some row) =
      goes name (Some row) ∷ (key_of table.schema (row_with fields row), None) ∷ []

  -- what an accepted operation changes
  abbrev pub changed_rows : TableState A → Action A → List (Changed A)
  changed_rows table (Insert row) = (key_of table.schema row, None) ∷ []
  changed_rows table (Update name fields) = updated_rows table name fields (row_of table name)
  changed_rows table (Delete name) = goes name (row_of table name) ∷ []

  abbrev pub changes_to : List ℕ → Cause → List (Changed A) → List (Change A)
  changes_to table cause [] = []
  changes_to table cause (row ∷ rows) =
      record { table = table; key = row.0; cause = cause; before = row.1 } ∷ changes_to table cause rows

  abbrev pub changes_in : Option (TableState A) → Op A → List (Change A)
  changes_in None op = []
  changes_in (Some table) op = changes_to op.table op.cause (changed_rows table op.action)

  -- the changes that an accepted operation makes
  abbrev pub changes : Tables A → Op A → List (Change A)
  changes tables op = changes_in (table_of tables op.table) op

  -- the changes of an effect, in order
  abbrev pub changes_made : Effect A → List (Change A)
  changes_made step = step.first ∷ option_to_list step.second

  abbrev pub in_place : Tables A → List ℕ → Result (TableState A) Refusal → Result (Tables A) Refusal
  in_place tables name (Ok table) = Ok (put_entry bytes_cmp tables name table)
  in_place tables name (Err why) = Err why

  abbrev pub stepped : Tables A → Option (TableState A) → Op A → Result (Tables A) Refusal
  stepped tables None op = Err NoTable
  stepped tables (Some table) op = in_place tables op.table (act table op.action)

  -- the database after one operation, or what it is refused
  abbrev pub step : Tables A → Op A → Result (Tables A) Refusal
  step tables op = stepped tables (table_of tables op.table) op

  -- what an operation is refused before memory is needed: its table is missing, or its row, or does not fit
  abbrev pub refused_act : TableState A → Action A → Option Refusal
  refused_act table (Insert row) = refused_insert table row
  refused_act table (Update name fields) = refused_update table name fields
  refused_act table (Delete name) = refused_delete table name

  abbrev pub refused_in : Option (TableState A) → Action A → Option Refusal
  refused_in None action = Some NoTable
  refused_in (Some table) action = refused_act table action

  abbrev pub refused_step : Tables A → Op A → Option Refusal
  refused_step tables op = refused_in (table_of tables op.table) op.action

  -- a place one later in the list
  abbrev pub one_later : Result (OutcomeState A) RefusedAt → Result (OutcomeState A) RefusedAt
  one_later (Ok outcome) = Ok outcome
  one_later (Err refused) = Err (record { at = refused.at + 1; why = refused.why })

  -- an operation's changes before those of the others
  abbrev pub with_changes : List (Change A) → Result (OutcomeState A) RefusedAt
      → Result (OutcomeState A) RefusedAt
  with_changes before (Ok outcome) =
      Ok (record { database = outcome.database; changes = before ++ outcome.changes })
  with_changes before (Err refused) = Err refused

  abbrev pub and_then : List (Change A) → Result (Tables A) Refusal
      → (Tables A → Result (OutcomeState A) RefusedAt) → Result (OutcomeState A) RefusedAt
  and_then before (Ok tables) others = with_changes before (one_later (others tables))
  and_then before (Err why) others = Err (record { at = 0; why = why })

  -- the database after all of them and their changes, or the place of the first refused one and why
  abbrev pub run : Tables A → List (Op A) → Result (OutcomeState A) RefusedAt
  run tables [] = Ok (record { database = tables; changes = [] })
  run tables (op ∷ ops) = and_then (changes tables op) (step tables op) (λ next. run next ops)
