-- What operations and new tables keep of a database: the columns of its tables, and that names, keys and ids rise.
use Rattle.std.proofs.Common.{◌≡◌, ℕ, Bool, true, false, cond, Some, Result, Ok, Err, List, [], ◌∷◌, ◌++◌, ◌≤◌, length, refl, ◌∙◌, arith}
use Rattle.std.specs.Prelude.{IfOk, is_some}
use Rattle.std.specs.List.{AllByRecursion}
use Rattle.std.specs.Ordering.{eq_by_cmp}
use Rattle.std.specs.Cmp.{Equal-is}
use Rattle.std.specs.FinMap.{IsAntisymmetric, nat_cmp-IsAntisymmetric, slice_cmp-IsAntisymmetric}
use Rattle.std.specs.FinMap.Entries.{find, is_sorted}
use Rattle.std.proofs.lemmas.Cmp.{nat_list_cmp_total}
use Rattle.cap_value.specs.Bytes.{bytes_cmp}
use Rattle.cap_value.specs.declared.refusal.Refusal.{Refusal}
use Rattle.cap_row.specs.Fields.{Fields}
use Rattle.cap_tree.specs.Tree.{get, put_entry}
use Rattle.cap_tree.proofs.EntryLemmas.{ordered_put}
use Rattle.cap_table.specs.Operation.{delete_row, empty_table, insert_row, update_row}
use Rattle.cap_table.specs.Sound.{IsRising}
use Rattle.cap_table.specs.Table.{TableState}
use Rattle.cap_table.specs.declared.row_ref.RowRef.{RowRef}
use Rattle.cap_table.proofs.KeptLemmas.{sorted-put as sorted-entries}
use Rattle.cap_database.specs.Assigned.{Assigned}
use Rattle.cap_database.specs.Operation.{act, and_then, changes, run, step}
use Rattle.cap_database.specs.Outcome.{OutcomeState}
use Rattle.cap_database.specs.Tables.{AreRising, AreTables, EachRises, Tables, create, schema_of, table_of}
use Rattle.cap_database.specs.declared.change.Change.{Change}
use Rattle.cap_database.specs.declared.op.Action.{Action}
use Rattle.cap_database.specs.declared.op.Action.TheVariants.{Insert, Update, Delete}
use Rattle.cap_database.specs.declared.op.Op.{Op}
use Rattle.cap_database.specs.declared.refused_at.RefusedAt.{RefusedAt}
use Rattle.cap_database.proofs.WritesLemmas.{get-find as entries-find, get-put as entries-put}

-- what is so of an answer is so where it says more
pub if_ok : {X E : Type 0} (P Q : X → Type 0) → ((x : X) → P x → Q x) → (r : Result X E) → IfOk r P → IfOk r Q
if_ok P Q says (Ok x) h = says x h
if_ok P Q says (Err e) h = tt

-- ---- tables by name

pub names_same : IsAntisymmetric bytes_cmp
names_same = slice_cmp-IsAntisymmetric nat_cmp-IsAntisymmetric

module _ {X : Type 0} where
  pub get-find : (es : List (List ℕ × X)) (q : List ℕ) → get bytes_cmp es q ≡ find bytes_cmp q es
  get-find es q = entries-find bytes_cmp nat_list_cmp_total names_same es q

  -- what a name has after a put
  pub get-put : (es : List (List ℕ × X)) (name : List ℕ) (x : X) (q : List ℕ) → get bytes_cmp (put_entry bytes_cmp es name x) q ≡ cond (eq_by_cmp bytes_cmp q name) (Some x) (get bytes_cmp es q)
  get-put es name x q = entries-put bytes_cmp nat_list_cmp_total names_same es name x q

  pub sorted-put : (es : List (List ℕ × X)) (name : List ℕ) (x : X) → is_sorted bytes_cmp es ≡ true → is_sorted bytes_cmp (put_entry bytes_cmp es name x) ≡ true
  sorted-put es name x s = sorted-entries bytes_cmp nat_list_cmp_total names_same es name x s

  module _ (P : X → Type 0) where
    pub each-put : (es : List (List ℕ × X)) (name : List ℕ) (x : X) → AllByRecursion (λ e. P e.1) es → P x → AllByRecursion (λ e. P e.1) (put_entry bytes_cmp es name x)
    each-put [] name x all new = (new, tt)
    each-put (e ∷ es) name x all new = grind (arith, each-put es name x all.1 new, new, all.0, all.1)

    pub each-found : (es : List (List ℕ × X)) (name : List ℕ) (x : X) → AllByRecursion (λ e. P e.1) es → get bytes_cmp es name ≡ Some x → P x
    each-found [] name x all is = cc
    each-found (e ∷ es) name x all is = grind (arith, each-found es name x all.1, all.0)

pub same_name : (q name : List ℕ) → eq_by_cmp bytes_cmp q name ≡ true → q ≡ name
same_name q name t = names_same q name ((Equal-is (bytes_cmp q name)).0 t)

module _ {A : Type 0} where
  -- a table of the same columns in the place of another
  pub schema_of-put : (tables : Tables A) (name : List ℕ) (old new : TableState A) → table_of tables name ≡ Some old → new.schema ≡ old.schema → (q : List ℕ) → schema_of (put_entry bytes_cmp tables name new) q ≡ schema_of tables q
  schema_of-put tables name old new there same q = grind (arith, get-put tables name new q, same_name q name)

  -- a table of a new name
  schema_of-create : (tables : Tables A) (name : List ℕ) (table : TableState A) → is_some (table_of tables name) ≡ false → (q : List ℕ) (columns : List Bool) → schema_of tables q ≡ Some columns
      → schema_of (put_entry bytes_cmp tables name table) q ≡ Some columns
  schema_of-create tables name table free q columns is = grind (arith, get-put tables name table q, same_name q name)

  -- a table that is put, where there is room for it
  pub put-tables : (tables : Tables A) (name : List ℕ) (table : TableState A) → AreTables tables → IsRising table → length (put_entry bytes_cmp tables name table) ≤ 64 → AreTables (put_entry bytes_cmp tables name table)
  put-tables tables name table h rises few = record {
    ordered = ordered_put bytes_cmp nat_list_cmp_total name table tables h.ordered;
    few = few;
    each = each-put IsRising tables name table h.each rises;
  }

  -- ---- lists of operations

  -- what the others leave of what the first leaves
  pub and_then-leaves : (P : Tables A → Type 0) (before : List (Change A)) (first : Result (Tables A) Refusal) (others : Tables A → Result (OutcomeState A) RefusedAt)
      → IfOk first (λ next. IfOk (others next) (λ left. P left.database)) → IfOk (and_then before first others) (λ left. P left.database)
  and_then-leaves P before (Ok next) others h = grind arith
  and_then-leaves P before (Err why) others h = tt

  -- an operation puts the table that it leaves in place of its table
  pub step-puts : (P : Tables A → Type 0) (tables : Tables A) (op : Op A) → ((table after : TableState A) → table_of tables op.table ≡ Some table → act table op.action ≡ Ok after → P (put_entry bytes_cmp tables op.table after))
      → IfOk (step tables op) P
  step-puts P tables op put = grind (arith, put)

  -- what each operation does, and then the others, all of them do
  module _ (Does : Tables A → OutcomeState A → Type 0) (none : (tables : Tables A) → Does tables (record { database = tables; changes = [] }))
      (one : (tables : Tables A) (op : Op A) → IfOk (step tables op) (λ next. Does tables (record { database = next; changes = changes tables op })))
      (more : (tables next : Tables A) (before : List (Change A)) (left : OutcomeState A) → Does tables (record { database = next; changes = before }) → Does next left
      → Does tables (record { database = left.database; changes = before ++ left.changes })) where
    then-each : (tables : Tables A) (before : List (Change A)) (first : Result (Tables A) Refusal) (others : Tables A → Result (OutcomeState A) RefusedAt) → IfOk first (λ next. Does tables (record { database = next; changes = before }))
        → ((next : Tables A) → IfOk (others next) (Does next)) → IfOk (and_then before first others) (Does tables)
    then-each tables before (Ok next) others here rest = grind (arith, rest next, here, more)
    then-each tables before (Err why) others here rest = tt

    pub run-each : (tables : Tables A) (ops : List (Op A)) → IfOk (run tables ops) (Does tables)
    run-each tables [] = none tables
    run-each tables (op ∷ ops) = then-each tables (changes tables op) (step tables op) (λ next. run next ops) (one tables op) (λ next. run-each next ops)

  -- ---- columns

  abbrev SameColumns : Tables A → Tables A → Type 0
  SameColumns tables after = (name : List ℕ) → schema_of after name ≡ schema_of tables name

  pub run-columns : ((table : TableState A) (action : Action A) → IfOk (act table action) (λ after. after.schema ≡ table.schema))
      → (tables : Tables A) (ops : List (Op A)) → IfOk (run tables ops) (λ left. SameColumns tables left.database)
  run-columns acts = run-each (λ tables left. SameColumns tables left.database) (λ tables name. refl)
      (λ tables op. step-puts (SameColumns tables) tables op (λ table after there is. schema_of-put tables op.table table after there (rw is at (acts table op.action))))
      (λ tables next before left one more name. more name ∙ one name)

  abbrev KeptColumns : Tables A → Tables A → Type 0
  KeptColumns tables after = (name : List ℕ) (columns : List Bool) → schema_of tables name ≡ Some columns → schema_of after name ≡ Some columns

  pub create-columns : (tables : Tables A) (name : List ℕ) (schema : List Bool) → IfOk (create tables name schema) (KeptColumns tables)
  create-columns tables name schema = grind (arith, schema_of-create tables name (empty_table schema))

  -- ---- order

  module _ (acts : (table : TableState A) (action : Action A) → IsRising table → IfOk (act table action) IsRising) where
    act-rises : (tables : Tables A) (op : Op A) (table after : TableState A) → EachRises tables → table_of tables op.table ≡ Some table → act table op.action ≡ Ok after → IsRising after
    act-rises tables op table after each there is = rw is at (acts table op.action (each-found IsRising tables op.table table each there))

    pub run-rises : (tables : Tables A) (ops : List (Op A)) → AreRising tables → IfOk (run tables ops) (λ left. AreRising left.database)
    run-rises tables ops rise = if_ok (λ left. AreRising tables → AreRising left.database) (λ left. AreRising left.database) (λ left rises. rises rise) (run tables ops) (run-each (λ tables left. AreRising tables → AreRising left.database) (λ tables rise. rise)
        (λ tables op. step-puts (λ next. AreRising tables → AreRising next) tables op (λ table after there is rise. record {
          names = sorted-put tables op.table after rise.names;
          each = each-put IsRising tables op.table after rise.each (act-rises tables op table after rise.each there is);
        }))
        (λ tables next before left one more rise. more (one rise)) tables ops)

    -- the tables after an operation in place, which has not made them more
    pub step-tables : (tables left : Tables A) (op : Op A) → AreTables tables → length left ≡ length tables → step tables op ≡ Ok left → AreTables left
    step-tables tables left op h long is = (rw is at (step-puts (λ next. length next ≡ length tables → AreTables next) tables op
        (λ table after there acted long. put-tables tables op.table after h (act-rises tables op table after h.each there acted) (rw long h.few)))) long

  pub create-rises : ((schema : List Bool) → IsRising (empty_table {A = A} schema)) → (tables : Tables A) (name : List ℕ) (schema : List Bool) → AreRising tables → IfOk (create tables name schema) AreRising
  create-rises empty tables name schema rise =
      let made : AreRising (put_entry bytes_cmp tables name (empty_table schema)) = record { names = sorted-put tables name (empty_table schema) rise.names; each = each-put IsRising tables name (empty_table schema) rise.each (empty schema) } in
      grind (arith, made)

  -- ---- each operation, by what it does

  module _ (P : TableState A → TableState A → Type 0)
      (inserts : (table : TableState A) (row : Fields A) → IfOk (insert_row table row) (P table))
      (updates : (table : TableState A) (name : RowRef A) (fields : Assigned A) → IfOk (update_row table name fields) (P table))
      (deletes : (table : TableState A) (name : RowRef A) → IfOk (delete_row table name) (P table)) where
    pub each-act : (table : TableState A) (action : Action A) → IfOk (act table action) (P table)
    each-act table (Insert row) = inserts table row
    each-act table (Update name fields) = updates table name fields
    each-act table (Delete name) = deletes table name

  module _ (P : TableState A → Type 0)
      (inserts : (table : TableState A) (row : Fields A) → P table → IfOk (insert_row table row) P)
      (updates : (table : TableState A) (name : RowRef A) (fields : Assigned A) → P table → IfOk (update_row table name fields) P)
      (deletes : (table : TableState A) (name : RowRef A) → P table → IfOk (delete_row table name) P) where
    pub each-keeps : (table : TableState A) (action : Action A) → P table → IfOk (act table action) P
    each-keeps table (Insert row) = inserts table row
    each-keeps table (Update name fields) = updates table name fields
    each-keeps table (Delete name) = deletes table name
