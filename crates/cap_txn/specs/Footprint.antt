-- What transactions look at, and how it looks in a database.
use Rattle.std.specs.Prelude.{◌≡◌, ℕ, ◌+◌, Bool, true, false, ◌&&◌, Option, Some, None, List, [], ◌∷◌, ◌++◌}
use Rattle.std.specs.Prelude.{length, nat_eq, ◌==◌, if◌then◌else◌}
use Rattle.std.specs.Bool.{beq}
use Rattle.std.specs.Cmp.{IsTotalOrder}
use Rattle.std.specs.Cmp.Lexicographic.{pointwise}
use Rattle.std.specs.List.{AllByRecursion}
use Rattle.std.specs.Option.{option_eq}
use Rattle.std.specs.declared.cmp.Ordering.{Ordering}
use Rattle.std.specs.Ordering.{nat_cmp, on, then_cmp, eq_by_cmp}
use Rattle.cap_value.specs.Bytes.{bytes_cmp}
use Rattle.cap_row.specs.Fields.{Fields}
use Rattle.cap_txn.specs.OrderedSet.{with_each}
use Rattle.std.proofs.lemmas.Cmp.{nat_cmp_total, nat_list_cmp_total, on_total, then_total}
use Rattle.cap_row.specs.Key.{fields_cmp, fields_cmp_total, fields_eq, key_of}
use Rattle.cap_row.specs.Row.{are_columns, columns_of, row_with}
use Rattle.cap_table.specs.Scan.{rows}
use Rattle.cap_table.specs.Table.{TableState}
use Rattle.cap_table.specs.Operation.{row_of}
use Rattle.cap_database.specs.Assigned.{Assigned}
use Rattle.cap_database.specs.Tables.{Tables, table_of}
use Rattle.cap_txn.specs.declared.item.Item.{Item}
use Rattle.cap_txn.specs.declared.item.Item.TheVariants.{Table, Row, Scan, NextId}
use Rattle.cap_database.specs.declared.op.Action.{Action}
use Rattle.cap_database.specs.declared.op.Action.TheVariants.{Insert, Update, Delete}
use Rattle.cap_database.specs.declared.op.Op.{Op}
use Rattle.cap_table.specs.declared.row_ref.RowRef.{RowRef}
use Rattle.cap_table.specs.declared.row_ref.RowRef.TheVariants.{Key, Loose}

-- how an item looks: there is no table of its name, or the table has these columns, this row or none under
-- the name, these rows, or gives this id next
pub data Appearance (A : Type 0) : Type 0 where
  Absent : Appearance A
  Columns : List Bool → Appearance A
  Found : Option (Fields A) → Appearance A
  Listed : List (RowRef A × Fields A) → Appearance A
  Next : ℕ → Appearance A

-- a place one later in the list
abbrev pub one_later : Option ℕ → Option ℕ
one_later None = None
one_later (Some n) = Some (n + 1)

module _ {A : Type 0} where
  -- ---- how an item looks

  -- the name of the table that an item is of
  abbrev pub table_named : Item A → List ℕ
  table_named (Table name) = name
  table_named (Row name row) = name
  table_named (Scan name) = name
  table_named (NextId name) = name

  abbrev pub look_in : Option (TableState A) → Item A → Appearance A
  look_in None item = Absent
  look_in (Some table) (Table name) = Columns table.schema
  look_in (Some table) (Row name row) = Found (row_of table row)
  look_in (Some table) (Scan name) = Listed (rows table)
  look_in (Some table) (NextId name) = Next table.next_id

  -- how the item looks in a database
  abbrev pub look : Tables A → Item A → Appearance A
  look tables item = look_in (table_of tables (table_named item)) item

  -- each item looks now as it did
  abbrev pub Unchanged : Tables A → Tables A → List (Item A) → Type 0
  Unchanged base now items = AllByRecursion (λ item. look now item ≡ look base item) items

  -- ---- what an operation looks at

  -- a new row looks at its key, and where it has none at the next id
  abbrev pub place_items : List ℕ → Option (Fields A) → List (Item A)
  place_items name (Some key) = Row name (Key key) ∷ []
  place_items name None = NextId name ∷ []

  -- a loose row that stays loose keeps its id
  abbrev pub moved_items : List ℕ → RowRef A → Option (Fields A) → List (Item A)
  moved_items name (Key old) key = place_items name key
  moved_items name (Loose id) (Some key) = place_items name (Some key)
  moved_items name (Loose id) None = []

  abbrev pub updated_items : List ℕ → List Bool → RowRef A → Assigned A → Option (Fields A) → List (Item A)
  updated_items name schema row fields None = []
  updated_items name schema row fields (Some old) =
      moved_items name row (key_of schema (row_with fields old))

  -- beside the table: the row that it names, and where its new row is to stand, if it gets that far
  abbrev pub action_items : List ℕ → TableState A → Action A → List (Item A)
  action_items name table (Insert row) =
      if length row == length table.schema then place_items name (key_of table.schema row) else []
  action_items name table (Update row fields) =
      Row name row
      ∷ (if are_columns (length table.schema) (columns_of fields)
      then updated_items name table.schema row fields (row_of table row) else [])
  action_items name table (Delete row) = Row name row ∷ []

  abbrev pub op_items_in : Option (TableState A) → Op A → List (Item A)
  op_items_in None op = []
  op_items_in (Some table) op = action_items op.table table op.action

  -- what an operation looks at, in order
  abbrev pub op_items : Tables A → Op A → List (Item A)
  op_items tables op = Table op.table ∷ op_items_in (table_of tables op.table) op

  -- where there is no table, the table alone
  abbrev pub if_there : Option (TableState A) → Item A → List (Item A)
  if_there None item = []
  if_there (Some table) item = item ∷ []

  -- what a read looks at
  abbrev pub read_items : Tables A → List ℕ → Item A → List (Item A)
  read_items tables name item = Table name ∷ if_there (table_of tables name) item

  -- ---- each item once

  abbrev pub kind_of : Item A → ℕ
  kind_of (Table name) = 0
  kind_of (Row name (Key key)) = 1
  kind_of (Row name (Loose id)) = 2
  kind_of (Scan name) = 3
  kind_of (NextId name) = 4

  abbrev pub key_in : Item A → Fields A
  key_in (Row name (Key key)) = key
  key_in (Row name (Loose id)) = []
  key_in (Table name) = []
  key_in (Scan name) = []
  key_in (NextId name) = []

  abbrev pub id_in : Item A → ℕ
  id_in (Row name (Loose id)) = id
  id_in (Row name (Key key)) = 0
  id_in (Table name) = 0
  id_in (Scan name) = 0
  id_in (NextId name) = 0

  -- by the row's name
  abbrev pub in_table_cmp : Item A → Item A → Ordering
  in_table_cmp = then_cmp (on key_in fields_cmp) (on id_in nat_cmp)

  -- by the table's name, then by the row's name
  abbrev pub in_kind_cmp : Item A → Item A → Ordering
  in_kind_cmp = then_cmp (on table_named bytes_cmp) in_table_cmp

  -- by kind, then by the table's name, then by the row's name
  abbrev pub item_cmp : Item A → Item A → Ordering
  item_cmp = then_cmp (on kind_of nat_cmp) in_kind_cmp

  pub item_cmp_total : IsTotalOrder item_cmp
  item_cmp_total =
      then_total (on_total kind_of nat_cmp_total)
      (then_total (on_total table_named nat_list_cmp_total)
      (then_total (on_total key_in fields_cmp_total) (on_total id_in nat_cmp_total)))

  abbrev pub item_eq : Item A → Item A → Bool
  item_eq = eq_by_cmp item_cmp

  -- the items one after another, each at its end unless it is there
  abbrev pub with_items : List (Item A) → List (Item A) → List (Item A)
  with_items = with_each item_cmp

  -- ---- the first item that has changed

  abbrev pub name_eq : RowRef A → RowRef A → Bool
  name_eq (Key a) (Key b) = fields_eq a b
  name_eq (Key a) (Loose n) = false
  name_eq (Loose m) (Key b) = false
  name_eq (Loose m) (Loose n) = nat_eq m n

  abbrev pub row_eq : RowRef A × Fields A → RowRef A × Fields A → Bool
  row_eq a b = name_eq a.0 b.0 && fields_eq a.1 b.1

  -- two looks at one item are the same
  abbrev pub appearance_eq : Appearance A → Appearance A → Bool
  appearance_eq Absent Absent = true
  appearance_eq (Columns a) (Columns b) = pointwise beq a b
  appearance_eq (Found a) (Found b) = option_eq fields_eq a b
  appearance_eq (Listed a) (Listed b) = pointwise row_eq a b
  appearance_eq (Next m) (Next n) = nat_eq m n
  appearance_eq _ _ = false

  -- the number, from 0, of the first item that looks otherwise now than it did
  abbrev pub first_changed : Tables A → Tables A → List (Item A) → Option ℕ
  first_changed base now [] = None
  first_changed base now (item ∷ items) =
      if appearance_eq (look base item) (look now item) then one_later (first_changed base now items)
      else Some 0

  -- the items in front look as they did, and the one at this place does not
  pub record IsFirstChanged (base now : Tables A) (items : List (Item A)) (place : ℕ) : Type 0 where
    pub front : List (Item A)
    pub item : Item A
    pub back : List (Item A)
    pub parts : items ≡ front ++ item ∷ back
    pub at : place ≡ length front
    pub same : Unchanged base now front
    pub differs : look now item ≡ look base item → ⊥
