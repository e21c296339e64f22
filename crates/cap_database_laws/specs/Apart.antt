-- Operations on different rows of a table.
use Rattle.std.specs.Prelude.{◌≡◌, ℕ, Option, Some, None, option_and_then, Ok, List, [], ◌∷◌}
use Rattle.std.specs.List.{AllByRecursion}
use Rattle.std.specs.Option.{option_map}
use Rattle.cap_row.specs.Fields.{Fields}
use Rattle.cap_row.specs.Key.{key_of}
use Rattle.cap_row.specs.Row.{row_with}
use Rattle.cap_table.specs.Operation.{row_of}
use Rattle.cap_table.specs.Table.{TableState}
use Rattle.cap_table.specs.declared.row_ref.RowRef.{RowRef}
use Rattle.cap_table.specs.declared.row_ref.RowRef.TheVariants.{Key}
use Rattle.cap_database.specs.Operation.{act, step}
use Rattle.cap_database.specs.Read.{row_at}
use Rattle.cap_database.specs.Tables.{Tables, table_of}
use Rattle.cap_database.specs.declared.op.Action.{Action}
use Rattle.cap_database.specs.declared.op.Action.TheVariants.{Insert, Update, Delete}
use Rattle.cap_database.specs.declared.op.Op.{Op}

module _ {A : Type 0} where
  -- the key of the row that an accepted operation leaves, none where the row has no key or there is no such
  -- row
  abbrev pub key_left : TableState A → Action A → Option (Fields A)
  key_left table (Insert row) = key_of table.schema row
  key_left table (Update name fields) =
      option_and_then (λ row. key_of table.schema (row_with fields row)) (row_of table name)
  key_left table (Delete name) = None

  abbrev pub by_key : Option (Fields A) → List (RowRef A)
  by_key None = []
  by_key (Some key) = Key key ∷ []

  -- the rows that an operation speaks of: the one that it names, and the one whose key it gives
  abbrev pub rows_touched : TableState A → Action A → List (RowRef A)
  rows_touched table (Insert row) = by_key (key_left table (Insert row))
  rows_touched table (Update name fields) = name ∷ by_key (key_left table (Update name fields))
  rows_touched table (Delete name) = name ∷ []

  -- none of these rows is one of those
  abbrev pub AreApart : List (RowRef A) → List (RowRef A) → Type 0
  AreApart these those = AllByRecursion (λ this. AllByRecursion (λ that. this ≡ that → ⊥) those) these

  -- the first one is accepted after the second one too; the keyed rows and the next id are what the other
  -- order leaves, and where only one of them gives an id, so is the whole table
  pub record Commute (table one other both : TableState A) (first : Action A) : Type 0 where
    pub last : TableState A
    pub accepted : act other first ≡ Ok last
    pub keyed : last.keyed ≡ both.keyed
    pub next : last.next_id ≡ both.next_id
    pub first_gives_none : one.next_id ≡ table.next_id → last ≡ both
    pub second_gives_none : other.next_id ≡ table.next_id → last ≡ both

  -- the id that a table gives next
  abbrev pub next_of : Tables A → List ℕ → Option ℕ
  next_of tables name = option_map (λ table. table.next_id) (table_of tables name)

  -- the same for a database, whose tables the operations change
  pub record CommuteIn (tables one other both : Tables A) (first : Op A) : Type 0 where
    pub last : Tables A
    pub accepted : step other first ≡ Ok last
    pub keyed : (name : List ℕ) (key : Fields A) → row_at last name key ≡ row_at both name key
    pub first_gives_none : next_of one first.table ≡ next_of tables first.table → last ≡ both
    pub second_gives_none : next_of other first.table ≡ next_of tables first.table → last ≡ both
