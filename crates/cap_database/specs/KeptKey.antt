-- Operations on a row that has a key and keeps it.
use Rattle.std.specs.Prelude.{◌≡◌, ◌⊎◌, Option, Some, None, option_and_then, List, [], ◌∷◌, if◌then◌else◌}
use Rattle.std.specs.Option.{option_map}
use Rattle.cap_row.specs.Fields.{Fields}
use Rattle.cap_row.specs.Row.{row_with}
use Rattle.cap_table.specs.KeptKey.{keeps_key, new_key}
use Rattle.cap_table.specs.Operation.{key_of_name}
use Rattle.cap_table.specs.Table.{TableState}
use Rattle.cap_table.specs.declared.row_ref.RowRef.TheVariants.{Key, Loose}
use Rattle.cap_database.specs.Tables.{Tables, table_of}
use Rattle.cap_database.specs.declared.change.Change.{Change}
use Rattle.cap_database.specs.declared.op.Action.{Action}
use Rattle.cap_database.specs.declared.op.Action.TheVariants.{Insert, Update, Delete}
use Rattle.cap_database.specs.declared.op.Op.{Op}

module _ {A : Type 0} where
  -- the key of the row that an operation adds, takes out, or changes outside its key
  abbrev pub kept_in : TableState A → Action A → Option (Fields A)
  kept_in table (Insert row) = new_key table row
  kept_in table (Update (Key key) fields) = if keeps_key table.schema fields then Some key else None
  kept_in table (Update (Loose id) fields) = None
  kept_in table (Delete name) = key_of_name name

  abbrev pub kept_key : Tables A → Op A → Option (Fields A)
  kept_key tables op = option_and_then (λ table. kept_in table op.action) (table_of tables op.table)

  -- the row that is under the key after the operation, by the row before it
  abbrev pub row_left : Action A → Option (Fields A) → Option (Fields A)
  row_left (Insert row) before = Some row
  row_left (Update name fields) before = option_map (row_with fields) before
  row_left (Delete name) before = None

  abbrev pub change_of : Op A → Fields A → Option (Fields A) → Change A
  change_of op key before = record { table = op.table; key = Some key; cause = op.cause; before = before }

  -- the changes of such an operation: one of this key, with the row before it, and of an update another, of
  -- the row that comes
  abbrev pub AreOfKey : Op A → Fields A → Option (Fields A) → List (Change A) → Type 0
  AreOfKey op key before changes =
      (changes ≡ change_of op key before ∷ [])
      ⊎ (changes ≡ change_of op key before ∷ change_of op key None ∷ [])
