-- Two databases that look the same at what an operation looks at: it is accepted on both or refused alike, and what looked
-- the same before looks the same after it.
use Rattle.std.proofs.Common.{◌≡◌, ℕ, Bool, true, false, cond, Option, Some, None, Result, Ok, Err, List, [], ◌∷◌, ◌++◌, refl, sym, ap, subst, ◌∙◌}
use Rattle.std.specs.Prelude.{IfOk, ◌==◌, is_some, length}
use Rattle.std.specs.List.{AllByRecursion}
use Rattle.std.specs.Ordering.{eq_by_cmp}
use Rattle.cap_value.specs.Bytes.{bytes_cmp}
use Rattle.cap_value.specs.declared.refusal.Refusal.{Refusal}
use Rattle.cap_value.specs.declared.refusal.Refusal.TheVariants.{NoTable}
use Rattle.cap_row.specs.Fields.{Fields}
use Rattle.cap_row.specs.Key.{key_of}
use Rattle.cap_row.specs.Row.{are_columns, columns_of, row_with}
use Rattle.cap_table.specs.Scan.{rows}
use Rattle.cap_tree.specs.Tree.{put_entry}
use Rattle.cap_table.specs.Sound.{IsRising}
use Rattle.cap_table.specs.Table.{TableState}
use Rattle.cap_database.specs.Operation.{act, in_place, step, stepped}
use Rattle.cap_database.specs.Tables.{EachRises, Tables, table_of}
use Rattle.cap_table.specs.Operation.{row_of}
use Rattle.cap_database.specs.Assigned.{Assigned}
use Rattle.cap_database.specs.Read.{read, read_in, rows_in, rows_of}
use Rattle.cap_table.specs.declared.row_ref.RowRef.{RowRef}
use Rattle.cap_table.specs.declared.row_ref.RowRef.TheVariants as ref
use Rattle.cap_txn.specs.Footprint.{Appearance, action_items, if_there, look, look_in, moved_items, op_items, op_items_in, place_items, read_items, table_named, updated_items}
use Rattle.cap_txn.specs.Footprint.Appearance.{Absent, Columns, Found, Listed, Next}
use Rattle.cap_txn.specs.declared.item.Item.{Item}
use Rattle.cap_txn.specs.declared.item.Item.TheVariants.{Table, Row, Scan, NextId}
use Rattle.cap_database.specs.declared.op.Action.{Action}
use Rattle.cap_database.specs.declared.op.Action.TheVariants.{Insert, Update, Delete}
use Rattle.cap_database.specs.declared.op.Op.{Op}
use Rattle.cap_database.proofs.KeptLemmas.{each-found, each-put, get-put, same_name}
use Rattle.cap_database.proofs.PlanLemmas.{Plan, act-planned, applied, plan_on, planned}
use Rattle.cap_txn.proofs.SamePlanLemmas.{applied-same, planned-same}

-- both calls went well, and this is so of what they left, or they are refused alike
abbrev pub Alike : {X E : Type 0} → (X → X → Type 0) → Result X E → Result X E → Type 0
Alike P (Ok x) (Ok y) = P x y
Alike P (Err e) (Err f) = f ≡ e
Alike P (Ok x) (Err f) = ⊥
Alike P (Err e) (Ok y) = ⊥

pub alike-weaker : {X E : Type 0} (P Q : X → X → Type 0) → ((x y : X) → P x y → Q x y) → (r s : Result X E) → Alike P r s → Alike Q r s
alike-weaker P Q says (Ok x) (Ok y) h = says x y h
alike-weaker P Q says (Err e) (Err f) h = h
alike-weaker P Q says (Ok x) (Err f) h = absurd h
alike-weaker P Q says (Err e) (Ok y) h = absurd h

module _ {A : Type 0} where
  -- an item looks the same in both databases
  abbrev pub LooksSame : Tables A → Tables A → Item A → Type 0
  LooksSame d e item = look e item ≡ look d item

  -- keys and ids rise in both databases, and each of these items looks the same
  pub record AreNear (items : List (Item A)) (d e : Tables A) : Type 0 where
    pub first : EachRises d
    pub second : EachRises e
    pub looks : AllByRecursion (LooksSame d e) items

  -- ---- a table in the place of another of its name

  all-weaker : (P Q : Item A → Type 0) → ((item : Item A) → P item → Q item) → (items : List (Item A)) → AllByRecursion P items → AllByRecursion Q items
  all-weaker P Q says [] all = tt
  all-weaker P Q says (item ∷ items) all = (says item all.0, all-weaker P Q says items all.1)

  module _ (d e : Tables A) (name : List ℕ) (t u v w : TableState A) (there : table_of d name ≡ Some t) (here : table_of e name ≡ Some u)
      (each : (item : Item A) → look_in (Some u) item ≡ look_in (Some t) item → look_in (Some w) item ≡ look_in (Some v) item) where
    at_name : (item : Item A) → LooksSame d e item → (b : Bool) → eq_by_cmp bytes_cmp (table_named item) name ≡ b
        → look_in (cond b (Some w) (table_of e (table_named item))) item ≡ look_in (cond b (Some v) (table_of d (table_named item))) item
    at_name item is true at =
        let n = table_named item in
        let found : table_of d n ≡ Some t = ap (table_of d) (same_name n name at) ∙ there in
        let beside : table_of e n ≡ Some u = ap (table_of e) (same_name n name at) ∙ here in
        each item (ap (λ (o : Option (TableState A)). look_in o item) (sym beside) ∙ is ∙ ap (λ (o : Option (TableState A)). look_in o item) found)
    at_name item is false at = is

    put-same : (item : Item A) → LooksSame d e item → LooksSame (put_entry bytes_cmp d name v) (put_entry bytes_cmp e name w) item
    put-same item is =
        ap (λ (o : Option (TableState A)). look_in o item) (get-put e name w (table_named item))
        ∙ at_name item is (eq_by_cmp bytes_cmp (table_named item) name) refl
        ∙ ap (λ (o : Option (TableState A)). look_in o item) (sym (get-put d name v (table_named item)))

  -- ---- the items of an operation are of its table

  zip-all : (P Q R : Item A → Type 0) → ((item : Item A) → P item → Q item → R item) → (items : List (Item A)) → AllByRecursion P items → AllByRecursion Q items → AllByRecursion R items
  zip-all P Q R says [] all more = tt
  zip-all P Q R says (item ∷ items) all more = (says item all.0 more.0, zip-all P Q R says items all.1 more.1)

  abbrev Named : List ℕ → List (Item A) → Type 0
  Named name items = AllByRecursion (λ item. table_named item ≡ name) items

  place-named : (name : List ℕ) (key : Option (Fields A)) → Named name (place_items name key)
  place-named name (Some key) = (refl, tt)
  place-named name None = (refl, tt)

  moved-named : (name : List ℕ) (row : RowRef A) (key : Option (Fields A)) → Named name (moved_items name row key)
  moved-named name (ref.Key old) key = place-named name key
  moved-named name (ref.Loose id) (Some key) = place-named name (Some key)
  moved-named name (ref.Loose id) None = tt

  updated-named : (name : List ℕ) (schema : List Bool) (row : RowRef A) (fields : Assigned A) (found : Option (Fields A)) → Named name (updated_items name schema row fields found)
  updated-named name schema row fields None = tt
  updated-named name schema row fields (Some old) = moved-named name row (key_of schema (row_with fields old))

  if-named : (name : List ℕ) (b : Bool) (items : List (Item A)) → Named name items → Named name (cond b items [])
  if-named name true items all = all
  if-named name false items all = tt

  action-named : (name : List ℕ) (t : TableState A) (a : Action A) → Named name (action_items name t a)
  action-named name t (Insert row) = if-named name (length row == length t.schema) (place_items name (key_of t.schema row)) (place-named name (key_of t.schema row))
  action-named name t (Update row fields) =
      (refl, if-named name (are_columns (length t.schema) (columns_of fields)) (updated_items name t.schema row fields (row_of t row)) (updated-named name t.schema row fields (row_of t row)))
  action-named name t (Delete row) = (refl, tt)

  module _ (d e : Tables A) where
    of_table : (t u : TableState A) (name : List ℕ) → table_of d name ≡ Some t → table_of e name ≡ Some u → (item : Item A) → table_named item ≡ name → LooksSame d e item → look_in (Some u) item ≡ look_in (Some t) item
    of_table t u name there here item named is =
        let found : table_of d (table_named item) ≡ Some t = ap (table_of d) named ∙ there in
        let beside : table_of e (table_named item) ≡ Some u = ap (table_of e) named ∙ here in
        ap (λ (o : Option (TableState A)). look_in o item) (sym beside) ∙ is ∙ ap (λ (o : Option (TableState A)). look_in o item) found

    -- ---- reads

    pub read-same : (name : List ℕ) (row : RowRef A) → AllByRecursion (LooksSame d e) (read_items d name (Row name row)) → read e name row ≡ read d name row
    read-same name row looks = inner (table_of d name) (table_of e name) refl refl looks.0 looks.1
      where
        inner : (o p : Option (TableState A)) → table_of d name ≡ o → table_of e name ≡ p → look_in p (Table name) ≡ look_in o (Table name) → AllByRecursion (LooksSame d e) (if_there o (Row name row)) → read_in p row ≡ read_in o row
        inner None None there here columns more = refl
        inner None (Some u) there here columns more = absurd (cc)
        inner (Some t) None there here columns more = absurd (cc)
        inner (Some t) (Some u) there here columns more =
            let found : Found (row_of u row) ≡ Found (row_of t row) = of_table t u name there here (Row name row) refl more.0 in
            let same : row_of u row ≡ row_of t row = cc in
            ap (λ (r : Option (Fields A)). Ok r) same

    pub scan-same : (name : List ℕ) → AllByRecursion (LooksSame d e) (read_items d name (Scan name)) → rows_of e name ≡ rows_of d name
    scan-same name looks = inner (table_of d name) (table_of e name) refl refl looks.0 looks.1
      where
        inner : (o p : Option (TableState A)) → table_of d name ≡ o → table_of e name ≡ p → look_in p (Table name) ≡ look_in o (Table name) → AllByRecursion (LooksSame d e) (if_there o (Scan name)) → rows_in p ≡ rows_in o
        inner None None there here columns more = refl
        inner None (Some u) there here columns more = absurd (cc)
        inner (Some t) None there here columns more = absurd (cc)
        inner (Some t) (Some u) there here columns more =
            let found : Listed (rows u) ≡ Listed (rows t) = of_table t u name there here (Scan name) refl more.0 in
            let same : rows u ≡ rows t = cc in
            ap (λ (r : List (RowRef A × Fields A)). Ok r) same

  -- ---- one operation

  module _ (acts : (table : TableState A) (action : Action A) → IsRising table → IfOk (act table action) IsRising) where
    stepped-each : (d : Tables A) (op : Op A) (found : Option (TableState A)) → EachRises d → table_of d op.table ≡ found → IfOk (stepped d found op) EachRises
    stepped-each d op None each is = tt
    stepped-each d op (Some table) each is = inner (act table op.action) (acts table op.action (each-found IsRising d op.table table each is))
      where
        inner : (r : Result (TableState A) Refusal) → IfOk r IsRising → IfOk (in_place d op.table r) EachRises
        inner (Ok after) rises = each-put IsRising d op.table after each rises
        inner (Err why) rises = tt

    rising-step : (d : Tables A) (op : Op A) → EachRises d → IfOk (step d op) EachRises
    rising-step d op each = stepped-each d op (table_of d op.table) each refl

    module _ (d e : Tables A) (op : Op A) (rest : List (Item A)) (near : AreNear rest d e) where
      -- what both leave, each by itself
      left-near : (r s : Result (Tables A) Refusal) → step d op ≡ r → step e op ≡ s → Alike (λ x y. AllByRecursion (LooksSame x y) rest) r s → Alike (AreNear rest) r s
      left-near (Ok x) (Ok y) is so looks =
          record { first = subst (λ r. IfOk r EachRises) is (rising-step d op near.first); second = subst (λ r. IfOk r EachRises) so (rising-step e op near.second); looks = looks }
      left-near (Err a) (Err b) is so same = same
      left-near (Ok x) (Err b) is so never = absurd never
      left-near (Err a) (Ok y) is so never = absurd never

      module _ (t u : TableState A) (there : table_of d op.table ≡ Some t) (here : table_of e op.table ≡ Some u) where
        rise_t : IsRising t
        rise_t = each-found IsRising d op.table t near.first there

        rise_u : IsRising u
        rise_u = each-found IsRising e op.table u near.second here

        written-alike : (mine other : Result (Plan A) Refusal) → other ≡ mine → IfOk mine (λ p. is_some p.fresh ≡ true → u.next_id ≡ t.next_id)
            → Alike (λ x y. AllByRecursion (LooksSame x y) rest) (in_place d op.table (planned t mine)) (in_place e op.table (planned u other))
        written-alike (Ok p) other same next =
            subst (λ (o : Result (Plan A) Refusal). Alike (λ x y. AllByRecursion (LooksSame x y) rest) (Ok (put_entry bytes_cmp d op.table (applied t p))) (in_place e op.table (planned u o))) (sym same)
            (all-weaker (LooksSame d e) (LooksSame (put_entry bytes_cmp d op.table (applied t p)) (put_entry bytes_cmp e op.table (applied u p)))
            (put-same d e op.table t u (applied t p) (applied u p) there here (applied-same t u p rise_t rise_u next)) rest near.looks)
        written-alike (Err why) other same next =
            subst (λ (o : Result (Plan A) Refusal). Alike (λ x y. AllByRecursion (LooksSame x y) rest) (Err why) (in_place e op.table (planned u o))) (sym same) refl

        acted-alike : u.schema ≡ t.schema → AllByRecursion (λ item. look_in (Some u) item ≡ look_in (Some t) item) (action_items op.table t op.action)
            → Alike (λ x y. AllByRecursion (LooksSame x y) rest) (in_place d op.table (act t op.action)) (in_place e op.table (act u op.action))
        acted-alike columns looks =
            let made = planned-same t u op.table op.action columns looks in
            subst (λ (r : Result (TableState A) Refusal). Alike (λ x y. AllByRecursion (LooksSame x y) rest) (in_place d op.table r) (in_place e op.table (act u op.action))) (sym (act-planned t op.action))
            (subst (λ (r : Result (TableState A) Refusal). Alike (λ x y. AllByRecursion (LooksSame x y) rest) (in_place d op.table (planned t (plan_on t op.action))) (in_place e op.table r)) (sym (act-planned u op.action))
            (written-alike (plan_on t op.action) (plan_on u op.action) made.0 made.1))

      abbrev Looking : Tables A → Tables A → Type 0
      Looking x y = AllByRecursion (LooksSame x y) rest

      -- an operation whose items look the same in both databases is accepted on both or refused alike, and what looked the
      -- same looks the same after it
      pub step-same : AllByRecursion (LooksSame d e) (op_items d op) → Alike (AreNear rest) (step d op) (step e op)
      step-same looks = left-near (step d op) (step e op) refl refl (inner (table_of d op.table) (table_of e op.table) refl refl looks.0 looks.1)
        where
          inner : (o p : Option (TableState A)) → table_of d op.table ≡ o → table_of e op.table ≡ p → look_in p (Table op.table) ≡ look_in o (Table op.table) → AllByRecursion (LooksSame d e) (op_items_in o op)
              → Alike Looking (stepped d o op) (stepped e p op)
          inner None None there here columns more = refl
          inner None (Some u) there here columns more = absurd (cc)
          inner (Some t) None there here columns more = absurd (cc)
          inner (Some t) (Some u) there here columns more =
              let same : u.schema ≡ t.schema = cc in
              acted-alike t u there here same
              (zip-all (λ item. table_named item ≡ op.table) (LooksSame d e) (λ item. look_in (Some u) item ≡ look_in (Some t) item) (of_table d e t u op.table there here)
              (action_items op.table t op.action) (action-named op.table t op.action) more)
