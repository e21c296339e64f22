-- Ids are given once, over lists of operations.
use Rattle.std.proofs.Common.{◌≡◌, ℕ, ◌+◌, ◌<◌, ◌≤◌, true, false, Option, Some, None, Result, List, [], ◌∷◌, refl, ap, arith, Ok, Ordering, Equal}
use Rattle.std.specs.Prelude.{IfOk, is_some}
use Rattle.std.specs.Ordering.{nat_cmp}
use Rattle.std.specs.FinMap.{nat_cmp-IsAntisymmetric}
use Rattle.std.proofs.lemmas.Cmp.{nat_cmp_total}
use Rattle.std.specs.Cmp.{tied_itself}
use Rattle.cap_value.specs.declared.refusal.Refusal.{Refusal}
use Rattle.cap_value.specs.declared.value.Value.{Value}
use Rattle.cap_row.specs.Fields.{Fields}
use Rattle.cap_row.specs.Key.{key_of, fields_cmp, fields_cmp_total}
use Rattle.cap_row.specs.Row.{row_with}
use Rattle.cap_tree.specs.Tree.{get, take_entry, put_entry}
use Rattle.cap_table.specs.declared.row_ref.RowRef.{RowRef}
use Rattle.cap_table.specs.declared.row_ref.RowRef.TheVariants.{Key, Loose}
use Rattle.cap_table.specs.Operation.{delete_row, insert_row, moved, placed, row_of, under_next_id, updated, update_row, with_id, with_key, without}
use Rattle.cap_table.specs.Table.{TableState}
use Rattle.cap_table.proofs.TableLemmas.{tied}
use Rattle.cap_tree.proofs.EntryLemmas.{put_entry-Updates}
use Rattle.cap_value.specs.Bytes.{bytes_cmp}
use Rattle.cap_database_laws.specs.Ids.{GiveIdsOnce, GivesIdsOnce}
use Rattle.cap_database.specs.Operation.{act, changes, run, step, stepped}
use Rattle.cap_database.specs.Tables.{Tables, table_of}
use Rattle.cap_database.specs.declared.op.Action.{Action}
use Rattle.cap_database.specs.declared.op.Op.{Op}
use Rattle.cap_database.proofs.KeptLemmas.{and_then-leaves, get-put, if_ok, same_name}

module _ {X : Type 0} where
  -- what stands after a take stood before
  after-take : (es : List (ℕ × X)) (k q : ℕ) → is_some (get nat_cmp (take_entry nat_cmp es k) q) ≡ true → is_some (get nat_cmp es q) ≡ true
  after-take [] k q stands = cc
  after-take (e ∷ es) k q stands = grind (arith, after-take es k q)

module _ {A : Type 0} where
  -- rows under ids of before, or under ids that are given
  once : (t u : TableState A) → t.next_id ≤ u.next_id
      → ((id : ℕ) → is_some (get nat_cmp t.loose id) ≡ false → is_some (get nat_cmp u.loose id) ≡ true → (t.next_id ≤ id) × (id < u.next_id)) → GivesIdsOnce t u
  once t u next new = record { next = next; new = new; gone = λ id given none. let now = new id in grind (arith, now) }

  -- from one state to the next, and from that to a third
  pub once-then : (t u v : TableState A) → GivesIdsOnce t u → GivesIdsOnce u v → GivesIdsOnce t v
  once-then t u v first second = once t v (omega (arith, first.next, second.next)) (λ id none some.
      grind (arith, first.new id none, second.new id, first.next, second.next))

  -- where no row takes an id that none had
  same_ids : (t u : TableState A) → u.next_id ≡ t.next_id → ((id : ℕ) → is_some (get nat_cmp u.loose id) ≡ true → is_some (get nat_cmp t.loose id) ≡ true) → GivesIdsOnce t u
  same_ids t u same stood = once t u (omega (arith, same)) (λ id none some. let before = stood id some in cc)

  pub same-once : (t : TableState A) → GivesIdsOnce t t
  same-once t = same_ids t t refl (λ id some. some)

  without-once : (t : TableState A) (name : RowRef A) → GivesIdsOnce t (without t name)
  without-once t (Key key) = same_ids t (without t (Key key)) refl (λ id some. some)
  without-once t (Loose id) = same_ids t (without t (Loose id)) refl (after-take t.loose id)

  with_id-once : (t : TableState A) (id : ℕ) (row : Fields A) → is_some (get nat_cmp t.loose id) ≡ true → GivesIdsOnce t (with_id t id row)
  with_id-once t id row stood = same_ids t (with_id t id row) refl (λ q some.
      let put = put_entry-Updates nat_cmp nat_cmp_total id row t.loose q in
      let same = tied nat_cmp id q nat_cmp-IsAntisymmetric in
      grind (arith, put, same))

  next-once : (t : TableState A) (row : Fields A) → GivesIdsOnce t (record (with_id t t.next_id row) { next_id = t.next_id + 1 })
  next-once t row = once t (record (with_id t t.next_id row) { next_id = t.next_id + 1 }) (omega arith) (λ q none some.
      let put = put_entry-Updates nat_cmp nat_cmp_total t.next_id row t.loose q in
      let same = tied nat_cmp t.next_id q nat_cmp-IsAntisymmetric in
      grind (arith, put, same))

  -- ---- operations

  abbrev Once : TableState A → Result (TableState A) Refusal → Type 0
  Once t r = IfOk r (λ after. GivesIdsOnce t after)

  -- the same ids, whatever became of the keyed rows
  rekeyed-ids : (t u : TableState A) (key row : Fields A) → GivesIdsOnce t u → GivesIdsOnce t (with_key u key row)
  rekeyed-ids t u key row h = record { next = h.next; new = h.new; gone = h.gone }

  under_next_id-once : (t u : TableState A) (row : Fields A) → GivesIdsOnce t u → Once t (under_next_id u row)
  under_next_id-once t u row h = grind (arith, once-then t u _ h (next-once u row))

  placed-once : (t : TableState A) (row : Fields A) (key : Option (Fields A)) → Once t (placed t row key)
  placed-once t row (Some key) = grind (arith, rekeyed-ids t t key row (same-once t))
  placed-once t row None = under_next_id-once t t row (same-once t)

  pub insert-once : (t : TableState A) (row : Fields A) → Once t (insert_row t row)
  insert-once t row = grind (arith, placed-once t row (key_of t.schema row))

  moved-once : (t : TableState A) (name : RowRef A) (row : Fields A) (key : Option (Fields A)) → is_some (row_of t name) ≡ true → Once t (moved t name row key)
  moved-once t (Loose id) row None stood = with_id-once t id row stood
  moved-once t name row None stood = under_next_id-once t (without t name) row (without-once t name)
  moved-once t name row (Some new) stood = grind (arith, rekeyed-ids t t new row (same-once t), rekeyed-ids t (without t name) new row (without-once t name))

  updated-once : (t : TableState A) (name : RowRef A) (changes : List (ℕ × Value A)) (found : Option (Fields A)) → row_of t name ≡ found → Once t (updated t name changes found)
  updated-once t name changes None is = tt
  updated-once t name changes (Some row) is = moved-once t name (row_with changes row) (key_of t.schema (row_with changes row)) (ap is_some is)

  pub update-once : (t : TableState A) (name : RowRef A) (changes : List (ℕ × Value A)) → Once t (update_row t name changes)
  update-once t name changes = grind (arith, updated-once t name changes (row_of t name) refl)

  pub delete-once : (t : TableState A) (name : RowRef A) → Once t (delete_row t name)
  delete-once t name = grind (arith, without-once t name)

-- what ids owe to each operation
pub ruleset ids_once = (insert-once, update-once, delete-once, same-once, once-then)

module _ {A : Type 0}
    (acts : (table : TableState A) (action : Action A) → IfOk (act table action) (GivesIdsOnce table))
    (over : (before between after : TableState A) → GivesIdsOnce before between → GivesIdsOnce between after → GivesIdsOnce before after)
    (same : (table : TableState A) → GivesIdsOnce table table) where
  put-once : (tables : Tables A) (name : List ℕ) (table left : TableState A) → table_of tables name ≡ Some table → GivesIdsOnce table left → GiveIdsOnce tables (put_entry bytes_cmp tables name left)
  put-once tables name table left there once q other is = grind (arith, get-put tables name left q, same_name q name, same other, there, once, is)

  stepped-once : (tables : Tables A) (op : Op A) (found : Option (TableState A)) → table_of tables op.table ≡ found → IfOk (stepped tables found op) (GiveIdsOnce tables)
  stepped-once tables op None is = tt
  stepped-once tables op (Some table) is =
      let acted = acts table op.action in
      let put = λ (left : TableState A). put-once tables op.table table left is in
      grind (arith, acted, put)

  later : (tables next left : Tables A) → GiveIdsOnce tables next → GiveIdsOnce next left → GiveIdsOnce tables left
  later tables next left first second name table there =
      let a = first name table there in
      let b = second name a.0 a.1 in
      (b.0, b.1, over table a.0 b.0 a.2 b.2)

  pub run-once : (tables : Tables A) (ops : List (Op A)) → IfOk (run tables ops) (λ left. GiveIdsOnce tables left.database)
  run-once tables [] = λ name table there. (table, there, same table)
  run-once tables (op ∷ ops) =
      and_then-leaves (GiveIdsOnce tables) (changes tables op) (step tables op) (λ next. run next ops)
      (if_ok (GiveIdsOnce tables) (λ next. IfOk (run next ops) (λ left. GiveIdsOnce tables left.database))
      (λ next first. if_ok (λ left. GiveIdsOnce next left.database) (λ left. GiveIdsOnce tables left.database) (λ left more. later tables next left.database first more) (run next ops) (run-once next ops))
      (step tables op) (stepped-once tables op (table_of tables op.table) refl))

-- ---- a row that is inserted and then deleted, and ids that are given

module _ {K X : Type 0} (R : K → K → Ordering) (k : K) (v : X) (self : R k k ≡ Equal) where
  take-put : (es : List (K × X)) → get R es k ≡ None → take_entry R (put_entry R es k v) k ≡ es
  take-put [] none = rw self
  take-put (e ∷ es) none = grind (arith, self, take-put es, none)

module _ {A : Type 0} (t : TableState A) where
  delete_put : (row key : Fields A) → get fields_cmp t.keyed key ≡ None → delete_row (with_key t key row) (Key key) ≡ Ok t
  delete_put row key none =
      let self = tied_itself fields_cmp_total key in
      grind (arith, self, put_entry-Updates fields_cmp fields_cmp_total key row t.keyed key, take-put fields_cmp key row self t.keyed none)

  pub insert_then_delete : (t2 : TableState A) (row key : Fields A) → key_of t.schema row ≡ Some key → insert_row t row ≡ Ok t2 → delete_row t2 (Key key) ≡ Ok t
  insert_then_delete t2 row key is ok = grind (arith, delete_put row key, is, ok)

  -- ---- ids

  pub next_given : (t2 : TableState A) (row : Fields A) → key_of t.schema row ≡ None → insert_row t row ≡ Ok t2 → (t2.next_id ≡ t.next_id + 1) × (get nat_cmp t2.loose t.next_id ≡ Some row)
  next_given t2 row is ok = grind (arith, tied_itself nat_cmp_total t.next_id, put_entry-Updates nat_cmp nat_cmp_total t.next_id row t.loose t.next_id, is, ok)
