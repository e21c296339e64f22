-- Two tables that look the same at what an operation looks at: it is planned alike on both, and leaves them alike.
use Rattle.std.proofs.Common.{◌≡◌, ℕ, ◌^◌, Bool, true, false, cond, Option, Some, None, Result, Ok, Err, List, [], ◌∷◌, ◌++◌, length, refl, sym, ap, subst, ◌∙◌}
use Rattle.std.specs.Prelude.{◌==◌, IfOk, is_some, map, nat_lt, option_and_then}
use Rattle.std.specs.List.{AllByRecursion}
use Rattle.std.specs.Ordering.{eq_by_cmp, nat_cmp}
use Rattle.std.specs.Cmp.{IsTotalOrder}
use Rattle.std.specs.FinMap.{IsAntisymmetric, nat_cmp-IsAntisymmetric}
use Rattle.std.specs.FinMap.Entries.{is_sorted}
use Rattle.std.proofs.lemmas.Cmp.{nat_cmp_total}
use Rattle.std.specs.declared.cmp.Ordering.{Ordering}
use Rattle.cap_value.specs.declared.refusal.Refusal.{Refusal}
use Rattle.cap_value.specs.declared.refusal.Refusal.TheVariants.{WrongWidth, BadColumn, Duplicate, NoRow, IdsSpent}
use Rattle.cap_row.specs.Fields.{Fields}
use Rattle.cap_row.specs.Key.{fields_cmp, fields_cmp_total, fields_eq, key_of}
use Rattle.cap_row.specs.Row.{are_columns, columns_of, row_with}
use Rattle.cap_table.specs.Scan.{rows}
use Rattle.cap_tree.specs.Tree.{get}
use Rattle.cap_table.proofs.TableLemmas.{fields_same}
use Rattle.cap_table.specs.Operation.{row_of}
use Rattle.cap_table.specs.Sound.{IsRising}
use Rattle.cap_table.specs.Table.{TableState}
use Rattle.cap_table.specs.declared.row_ref.RowRef.{RowRef}
use Rattle.cap_table.specs.declared.row_ref.RowRef.TheVariants.{Key, Loose}
use Rattle.cap_database.specs.Assigned.{Assigned}
use Rattle.cap_txn.specs.Footprint.{Appearance, action_items, look_in, moved_items, place_items, updated_items}
use Rattle.cap_txn.specs.Footprint.Appearance.{Absent, Columns, Found, Listed, Next}
use Rattle.cap_txn.specs.declared.item.Item.{Item}
use Rattle.cap_txn.specs.declared.item.Item.TheVariants.{Table, Row, Scan, NextId}
use Rattle.cap_database.specs.declared.op.Action.{Action}
use Rattle.cap_database.specs.declared.op.Action.TheVariants.{Insert, Update, Delete}
use Rattle.cap_database.proofs.PlanLemmas.{Plan, applied, found_by, gone_plan, id_writes, if_left, is_taken, key_given, moved_plan, next_after, placed_plan, plan_of, plan_on, unless_taken, updated_plan}
use Rattle.cap_database.proofs.WritesLemmas.{get-set, set_at, sets, sorted-set}

-- ---- the same writes to two lists that have the same at a key

module _ {K X : Type 0} (R : K → K → Ordering) (o : IsTotalOrder R) (same : IsAntisymmetric R) where
  pub get-sets-same : (es fs : List (K × X)) (ws : List (K × Option X)) (q : K) → is_sorted R es ≡ true → is_sorted R fs ≡ true → get R fs q ≡ get R es q
      → get R (sets R o same fs ws) q ≡ get R (sets R o same es ws) q
  get-sets-same es fs [] q s t is = is
  get-sets-same es fs (w ∷ ws) q s t is =
      get-sets-same (set_at R o same es w.0 w.1) (set_at R o same fs w.0 w.1) ws q (sorted-set R o same es w.0 w.1 s) (sorted-set R o same fs w.0 w.1 t)
      (get-set R o same fs w.0 w.1 q t ∙ ap (λ found. cond (eq_by_cmp R q w.0) w.1 found) is ∙ sym (get-set R o same es w.0 w.1 q s))

module _ {A : Type 0} where
  -- ---- all rows of a table are those with a key and the others

  abbrev Listing : List (Fields A × Fields A) → List (ℕ × Fields A) → List (RowRef A × Fields A)
  Listing keyed loose = map (λ row. (Key row.0, row.1)) keyed ++ map (λ row. (Loose row.0, row.1)) loose

  abbrev head_of : List (RowRef A × Fields A) → RowRef A × Fields A → RowRef A × Fields A
  head_of [] d = d
  head_of (x ∷ xs) d = x

  abbrev rest_of : List (RowRef A × Fields A) → List (RowRef A × Fields A)
  rest_of [] = []
  rest_of (x ∷ xs) = xs

  abbrev loose_name : ℕ → RowRef A
  loose_name id = Loose id

  loose-same : (ms ns : List (ℕ × Fields A)) → Listing [] ms ≡ Listing [] ns → ms ≡ ns
  loose-same [] [] e = refl
  loose-same [] (n ∷ ns) e = cc
  loose-same (m ∷ ms) [] e = cc
  loose-same (m ∷ ms) (n ∷ ns) e =
      let rest : Listing [] ms ≡ Listing [] ns = ap rest_of e in
      let names : loose_name m.0 ≡ loose_name n.0 = ap (λ l. (head_of l (Loose m.0, m.1)).0) e in
      let ids : m.0 ≡ n.0 = cc in
      let values : m.1 ≡ n.1 = ap (λ l. (head_of l (Loose m.0, m.1)).1) e in
      ap (λ (id : ℕ). (id, m.1) ∷ ms) ids ∙ ap (λ (v : Fields A). (n.0, v) ∷ ms) values ∙ ap (λ l. n ∷ l) (loose-same ms ns rest)

  pub listing-same : (js ks : List (Fields A × Fields A)) (ms ns : List (ℕ × Fields A)) → Listing js ms ≡ Listing ks ns → (js ≡ ks) × (ms ≡ ns)
  listing-same [] [] ms ns e = (refl, loose-same ms ns e)
  listing-same [] (k ∷ ks) [] ns e = cc
  listing-same [] (k ∷ ks) (m ∷ ms) ns e =
      let names : Loose m.0 ≡ Key k.0 = ap (λ l. (head_of l (Key k.0, k.1)).0) e in
      cc
  listing-same (j ∷ js) [] ms [] e = cc
  listing-same (j ∷ js) [] ms (n ∷ ns) e =
      let names : Key j.0 ≡ Loose n.0 = ap (λ l. (head_of l (Key j.0, j.1)).0) e in
      cc
  listing-same (j ∷ js) (k ∷ ks) ms ns e =
      let more = listing-same js ks ms ns (ap rest_of e) in
      let names : Key j.0 ≡ Key k.0 = ap (λ l. (head_of l (Key j.0, j.1)).0) e in
      let keys : j.0 ≡ k.0 = cc in
      let values : j.1 ≡ k.1 = ap (λ l. (head_of l (Key j.0, j.1)).1) e in
      (ap (λ (key : Fields A). (key, j.1) ∷ js) keys ∙ ap (λ (v : Fields A). (k.0, v) ∷ js) values ∙ ap (λ l. k ∷ l) more.0, more.1)

  -- ---- what an operation looks at decides what it writes

  module _ (t u : TableState A) where
    -- the item looks the same in both tables
    abbrev Same : Item A → Type 0
    Same item = look_in (Some u) item ≡ look_in (Some t) item

    -- where a row takes the next id, it is the same in both
    abbrev Fresh : Plan A → Type 0
    Fresh plan = is_some plan.fresh ≡ true → u.next_id ≡ t.next_id

    -- the same is planned, and where a row takes the next id, that is the same
    abbrev pub PlannedAlike : Result (Plan A) Refusal → Result (Plan A) Refusal → Type 0
    PlannedAlike mine other = (other ≡ mine) × IfOk mine Fresh

    row-same : (name : List ℕ) (row : RowRef A) → Same (Row name row) → row_of u row ≡ row_of t row
    row-same name row e = cc

    next-same : (name : List ℕ) → Same (NextId name) → u.next_id ≡ t.next_id
    next-same name e = cc

    unless-alike : (taken other : Bool) (plan : Plan A) → other ≡ taken → is_some plan.fresh ≡ false → PlannedAlike (unless_taken taken plan) (unless_taken other plan)
    unless-alike taken other plan e none = (ap (λ b. unless_taken b plan) e, inner taken)
      where
        inner : (b : Bool) → IfOk (unless_taken b plan) Fresh
        inner true = tt
        inner false = λ some. let clash : true ≡ false = sym some ∙ none in cc

    left-alike : (plan : Plan A) → u.next_id ≡ t.next_id → PlannedAlike (if_left (nat_lt t.next_id (2 ^ 63)) plan) (if_left (nat_lt u.next_id (2 ^ 63)) plan)
    left-alike plan e = (ap (λ n. if_left (nat_lt n (2 ^ 63)) plan) e, inner (nat_lt t.next_id (2 ^ 63)))
      where
        inner : (b : Bool) → IfOk (if_left b plan) Fresh
        inner true = λ some. e
        inner false = tt

    placed-alike : (name : List ℕ) (row : Fields A) (key : Option (Fields A)) → AllByRecursion Same (place_items name key)
        → PlannedAlike (placed_plan row key (is_taken t key) (nat_lt t.next_id (2 ^ 63))) (placed_plan row key (is_taken u key) (nat_lt u.next_id (2 ^ 63)))
    placed-alike name row (Some key) looks =
        unless-alike (is_taken t (Some key)) (is_taken u (Some key)) (record { keys = (key, Some row) ∷ []; ids = []; fresh = None }) (ap is_some (row-same name (Key key) looks.0)) refl
    placed-alike name row None looks = left-alike (record { keys = []; ids = []; fresh = Some row }) (next-same name looks.0)

    moved-alike : (name : List ℕ) (from : RowRef A) (row : Fields A) (key : Option (Fields A)) → AllByRecursion Same (moved_items name from key)
        → PlannedAlike (moved_plan from row key (is_taken t key) (nat_lt t.next_id (2 ^ 63))) (moved_plan from row key (is_taken u key) (nat_lt u.next_id (2 ^ 63)))
    moved-alike name (Key old) row (Some new) looks =
        let moves : Plan A = record { keys = (old, None) ∷ (new, Some row) ∷ []; ids = []; fresh = None } in
        let stays : Plan A = record { keys = (new, Some row) ∷ []; ids = []; fresh = None } in
        elim (fields_eq old new) as (λ e. PlannedAlike (cond e (Ok stays) (unless_taken (is_taken t (Some new)) moves)) (cond e (Ok stays) (unless_taken (is_taken u (Some new)) moves))) [
          | true ↦ (refl, λ some. cc)
          | false ↦ unless-alike (is_taken t (Some new)) (is_taken u (Some new)) moves (ap is_some (row-same name (Key new) looks.0)) refl
        ]
    moved-alike name (Key old) row None looks = left-alike (record { keys = (old, None) ∷ []; ids = []; fresh = Some row }) (next-same name looks.0)
    moved-alike name (Loose id) row (Some new) looks =
        unless-alike (is_taken t (Some new)) (is_taken u (Some new)) (record { keys = (new, Some row) ∷ []; ids = (id, None) ∷ []; fresh = None }) (ap is_some (row-same name (Key new) looks.0)) refl
    moved-alike name (Loose id) row None looks = (refl, λ some. cc)

    -- what is planned in the other table, by its columns and the row found
    abbrev Other : Action A → List Bool → Option (Fields A) → Result (Plan A) Refusal
    Other a schema found = plan_of schema a found (is_taken u (key_given schema a found)) (nat_lt u.next_id (2 ^ 63))

    abbrev Mine : Action A → List Bool → Option (Fields A) → Result (Plan A) Refusal
    Mine a schema found = plan_of schema a found (is_taken t (key_given schema a found)) (nat_lt t.next_id (2 ^ 63))

    updated-alike : (name : List ℕ) (schema : List Bool) (from : RowRef A) (fields : Assigned A) (found : Option (Fields A)) → AllByRecursion Same (updated_items name schema from fields found)
        → PlannedAlike (updated_plan schema from fields found (is_taken t (key_given schema (Update from fields) found)) (nat_lt t.next_id (2 ^ 63)))
        (updated_plan schema from fields found (is_taken u (key_given schema (Update from fields) found)) (nat_lt u.next_id (2 ^ 63)))
    updated-alike name schema from fields None looks = (refl, tt)
    updated-alike name schema from fields (Some row) looks = moved-alike name from (row_with fields row) (key_of schema (row_with fields row)) looks

    gone-fresh : (from : RowRef A) → is_some (gone_plan from).fresh ≡ false
    gone-fresh (Key key) = refl
    gone-fresh (Loose id) = refl

    deleted-alike : (schema : List Bool) (from : RowRef A) (found : Option (Fields A)) → PlannedAlike (Mine (Delete from) schema found) (Other (Delete from) schema found)
    deleted-alike schema from found = (refl, inner (is_some found))
      where
        inner : (b : Bool) → IfOk (cond b (Ok (gone_plan from)) (Err NoRow)) Fresh
        inner true = λ some. let clash : true ≡ false = sym some ∙ gone-fresh from in cc
        inner false = tt

    -- with the columns of the first and the row that it finds
    action-alike : (name : List ℕ) (a : Action A) → AllByRecursion Same (action_items name t a) → PlannedAlike (Mine a t.schema (found_by t a)) (Other a t.schema (found_by t a))
    action-alike name (Insert row) looks =
        elim (length row == length t.schema) as (λ b. AllByRecursion Same (cond b (place_items name (key_of t.schema row)) [])
        → PlannedAlike (cond b (placed_plan row (key_of t.schema row) (is_taken t (key_of t.schema row)) (nat_lt t.next_id (2 ^ 63))) (Err WrongWidth))
        (cond b (placed_plan row (key_of t.schema row) (is_taken u (key_of t.schema row)) (nat_lt u.next_id (2 ^ 63))) (Err WrongWidth))) [
          | true ↦ placed-alike name row (key_of t.schema row)
          | false ↦ λ l. (refl, tt)
        ] looks
    action-alike name (Update from fields) looks =
        let found = row_of t from in
        let key = key_given t.schema (Update from fields) found in
        elim (are_columns (length t.schema) (columns_of fields)) as (λ b. AllByRecursion Same (cond b (updated_items name t.schema from fields found) [])
        → PlannedAlike (cond b (updated_plan t.schema from fields found (is_taken t key) (nat_lt t.next_id (2 ^ 63))) (Err BadColumn))
        (cond b (updated_plan t.schema from fields found (is_taken u key) (nat_lt u.next_id (2 ^ 63))) (Err BadColumn))) [
          | true ↦ updated-alike name t.schema from fields found
          | false ↦ λ l. (refl, tt)
        ] looks.1
    action-alike name (Delete from) looks = deleted-alike t.schema from (row_of t from)

    found-alike : (name : List ℕ) (a : Action A) → AllByRecursion Same (action_items name t a) → found_by u a ≡ found_by t a
    found-alike name (Insert row) looks = refl
    found-alike name (Update from fields) looks = row-same name from looks.0
    found-alike name (Delete from) looks = row-same name from looks.0

    -- an operation whose items look the same in both tables is planned alike on both
    pub planned-same : (name : List ℕ) (a : Action A) → u.schema ≡ t.schema → AllByRecursion Same (action_items name t a) → PlannedAlike (plan_on t a) (plan_on u a)
    planned-same name a columns looks =
        let made = action-alike name a looks in
        (ap (λ schema. Other a schema (found_by u a)) columns ∙ ap (λ found. Other a t.schema found) (found-alike name a looks) ∙ made.0, made.1)

    -- ---- the same writes leave alike what is alike

    loose-writes : (p : Plan A) → Fresh p → id_writes u.next_id p.ids p.fresh ≡ id_writes t.next_id p.ids p.fresh
    loose-writes p next = inner p.fresh next
      where
        inner : (fresh : Option (Fields A)) → (is_some fresh ≡ true → u.next_id ≡ t.next_id) → id_writes u.next_id p.ids fresh ≡ id_writes t.next_id p.ids fresh
        inner None next = refl
        inner (Some row) next = ap (λ (n : ℕ). (n, Some row) ∷ []) (next refl)

    pub applied-same : (p : Plan A) → IsRising t → IsRising u → Fresh p → (item : Item A) → Same item → look_in (Some (applied u p)) item ≡ look_in (Some (applied t p)) item
    applied-same p rise_t rise_u next (Table name) is = is
    applied-same p rise_t rise_u next (Row name (Key key)) is =
        ap Found (get-sets-same fields_cmp fields_cmp_total fields_same t.keyed u.keyed p.keys key rise_t.keys rise_u.keys (row-same name (Key key) is))
    applied-same p rise_t rise_u next (Row name (Loose id)) is =
        ap Found (ap (λ ws. get nat_cmp (sets nat_cmp nat_cmp_total nat_cmp-IsAntisymmetric u.loose ws) id) (loose-writes p next)
        ∙ get-sets-same nat_cmp nat_cmp_total nat_cmp-IsAntisymmetric t.loose u.loose (id_writes t.next_id p.ids p.fresh) id rise_t.ids rise_u.ids (row-same name (Loose id) is))
    applied-same p rise_t rise_u next (Scan name) is =
        let lists : rows u ≡ rows t = cc in
        let parts = listing-same u.keyed t.keyed u.loose t.loose lists in
        ap (λ keyed. Listed (Listing (sets fields_cmp fields_cmp_total fields_same keyed p.keys) (sets nat_cmp nat_cmp_total nat_cmp-IsAntisymmetric u.loose (id_writes u.next_id p.ids p.fresh)))) parts.0
        ∙ ap (λ loose. Listed (Listing (sets fields_cmp fields_cmp_total fields_same t.keyed p.keys) (sets nat_cmp nat_cmp_total nat_cmp-IsAntisymmetric loose (id_writes u.next_id p.ids p.fresh)))) parts.1
        ∙ ap (λ ws. Listed (Listing (sets fields_cmp fields_cmp_total fields_same t.keyed p.keys) (sets nat_cmp nat_cmp_total nat_cmp-IsAntisymmetric t.loose ws))) (loose-writes p next)
    applied-same p rise_t rise_u next (NextId name) is = ap (λ n. Next (next_after n p.fresh)) (next-same name is)
