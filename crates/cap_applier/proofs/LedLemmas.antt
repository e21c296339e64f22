-- The transaction of an application leaves what the application left.
use Rattle.std.proofs.Common.{◌≡◌, ◌⊎◌, inl, inr, ⊎_elim, ◌↔◌, ℕ, Bool, true, false, cond, Option, Some, None, Result, Ok, Err, List, [], ◌∷◌, ◌++◌, drop, length, map, refl, sym, ap, subst, ◌∙◌, Less, Equal, Greater, arith}
use Rattle.std.specs.Prelude.{IfOk, ◌+◌, option_and_then}
use Rattle.std.specs.Ordering.{is_eq, is_lt}
use Rattle.std.specs.declared.cmp.Ordering.{Ordering}
use Rattle.std.specs.Cmp.{IsTotalOrder, tied_itself}
use Rattle.std.specs.FinMap.Entries.{below_all, is_sorted}
use Rattle.std.specs.List.{enumerate_from}
use Rattle.std.specs.Option.{option_map}
use Rattle.std.proofs.lemmas.Cmp.{nat_list_cmp_total}
use Rattle.std.proofs.lemmas.List.{length-map}
use Rattle.std.proofs.lemmas.Option.{same_Some}
use Rattle.cap_value.specs.Bytes.{bytes_cmp, bytes_cmp-Equal}
use Rattle.cap_value.specs.Memory.{AnswersUnlessMemory, LeavesUnlessMemory}
use Rattle.cap_value.specs.declared.memory.Fault.{Fault}
use Rattle.cap_value.specs.declared.memory.Fault.TheVariants.{Refused, OutOfMemory}
use Rattle.cap_value.specs.declared.refusal.Refusal.{Refusal}
use Rattle.cap_row.specs.Fields.{Fields}
use Rattle.cap_row.specs.Key.{fields_cmp, fields_cmp-Equal, fields_cmp_total, fields_eq, fields_eq_decides, key_of}
use Rattle.cap_row.specs.Row.{are_columns, columns_of, row_with}
use Rattle.cap_tree.specs.Tree.{get, put_entry, take_entry}
use Rattle.cap_table.specs.Sound.{IsRising}
use Rattle.cap_table.specs.Table.{TableState}
use Rattle.cap_table.specs.declared.row_ref.RowRef.TheVariants.{Key}
use Rattle.cap_table.proofs.KeptLemmas.{with_key-rises, without-rises}
use Rattle.cap_table.proofs.BackLemmas.{own-row}
use Rattle.cap_table.proofs.TableLemmas.{first, second}
use Rattle.cap_database.specs.Operation.{act, in_place, step, stepped}
use Rattle.cap_database.specs.Read.{row_at}
use Rattle.cap_database.specs.Snapshot.{SnapshotState}
use Rattle.cap_database.specs.Tables.{EachRises, Tables, table_of}
use Rattle.cap_database.specs.declared.op.Action.{Action}
use Rattle.cap_database.specs.declared.op.Op.{Op as Change}
use Rattle.cap_database.specs.declared.op.Action.TheVariants.{Insert, Update, Delete}
use Rattle.cap_database.proofs.KeptKeyLemmas.{row-found}
use Rattle.cap_database.proofs.KeptLemmas.{each-found, each-put}
use Rattle.cap_txn.specs.Calls.{answer_to, done}
use Rattle.cap_txn.specs.Calls as calls
use Rattle.cap_txn.specs.Sound.{IsSound, Leaves}
use Rattle.cap_txn.specs.Transaction.{IsAnswered, TxnState, begin_traced, traced}
use Rattle.cap_txn.specs.Workspace.{WorkspaceState, after_op, op_made}
use Rattle.cap_txn.specs.declared.answered_call.Answer.TheVariants.{Done}
use Rattle.cap_txn.specs.declared.answered_call.Asked.{Asked}
use Rattle.cap_txn.specs.declared.answered_call.Asked.TheVariants.{Op, Get}
use Rattle.cap_txn.proofs.SoundLemmas.{begin-IsSound, op-IsSound}
use Rattle.cap_apply.specs.Apply.{and_then, with_row}
use Rattle.cap_apply.specs.Operations.{directly}
use Rattle.cap_apply.specs.Row.{assigned_from}
use Rattle.cap_apply.proofs.EntryLemmas.{get_put}
use Rattle.cap_apply.proofs.OperationLemmas.{act_delete, act_insert_new, act_update}
use Rattle.cap_apply.proofs.RowLemmas.{are_columns-assigned, row_with-assigned, set_all}
use Rattle.cap_applier.specs.Applier.{ApplierState}
use Rattle.cap_applier.specs.Looked.{IsAmong, KeepsTo, SameOthers, SameRows, looked_at, others_in, others_of}
use Rattle.cap_applier.specs.Transaction.{leading, made_in, row_led, rows_led, transaction_of, unless_refused}
use Rattle.cap_applier.proofs.LookedLemmas.{put-others}
use Rattle.cap_applier.proofs.NamedLemmas.{put_stays}

-- ---- one of two

decided : {X : Type 0} (cmp : X → X → Ordering) → ((x y : X) → (cmp x y ≡ Equal) ↔ (x ≡ y)) → (x y : X) → (x ≡ y) ⊎ (x ≡ y → ⊥)
decided cmp same x y =
    elim (cmp x y) as (λ o. cmp x y ≡ o → (x ≡ y) ⊎ (x ≡ y → ⊥)) [
      | Less ↦ λ is. inr (λ e. let told = (same x y).1 e in absurd cc)
      | Equal ↦ λ is. inl ((same x y).0 is)
      | Greater ↦ λ is. inr (λ e. let told = (same x y).1 e in absurd cc)
    ] refl

-- ---- a key that was taken out is not found

less : (r : Ordering) → is_lt r ≡ true → r ≡ Less
less Less is = refl
less Equal is = cc
less Greater is = cc

module _ {K X : Type 0} (R : K → K → Ordering) (o : IsTotalOrder R) where
  absent : (k x : K) (es : List (K × X)) → R k x ≡ Equal → below_all R x es ≡ true → get R es k ≡ None
  absent k x [] tie all = refl
  absent k x (e ∷ es) tie all =
      let above = less (R x e.0) (first (is_lt (R x e.0)) (below_all R x es) all) in
      ap (λ r. cond (is_eq r) (Some e.1) (get R es k)) (o.congr k x e.0 tie ∙ above)
      ∙ absent k x es tie (second (is_lt (R x e.0)) (below_all R x es) all)

  taken-out : (es : List (K × X)) (k : K) → is_sorted R es ≡ true → get R (take_entry R es k) k ≡ None
  taken-out [] k s = refl
  taken-out (e ∷ es) k s =
      elim (R k e.0) as (λ r. R k e.0 ≡ r → get R (cond (is_eq r) es (e ∷ take_entry R es k)) k ≡ None) [
        | Less ↦ λ p. ap (λ r. cond (is_eq r) (Some e.1) (get R (take_entry R es k) k)) p ∙ taken-out es k (second (below_all R e.0 es) (is_sorted R es) s)
        | Equal ↦ λ p. absent k e.0 es p (first (below_all R e.0 es) (is_sorted R es) s)
        | Greater ↦ λ p. ap (λ r. cond (is_eq r) (Some e.1) (get R (take_entry R es k) k)) p ∙ taken-out es k (second (below_all R e.0 es) (is_sorted R es) s)
      ] refl

not-both : {X : Type 0} (o : Option X) (x : X) → o ≡ None → o ≡ Some x → ⊥
not-both o x none some = let e : None ≡ Some x = sym none ∙ some in cc

module _ {A : Type 0} where
  every_column : (from : ℕ) (row : Fields A) → enumerate_from from row ≡ assigned_from from (map Some row)
  every_column from [] = refl
  every_column from (value ∷ row) = ap (λ r. (from, value) ∷ r) (every_column (from + 1) row)

  -- ---- a table that is there

  pub record There (tables : Tables A) (name : List ℕ) (key : Fields A) (row : Option (Fields A)) : Type 0 where
    pub table : TableState A
    pub is : table_of tables name ≡ Some table
    pub found : get fields_cmp table.keyed key ≡ row

  there-of : (tables : Tables A) (name : List ℕ) (key row : Fields A) → row_at tables name key ≡ Some row → There tables name key (Some row)
  there-of tables name key row at = inner (table_of tables name) refl at
    where
      inner : (o : Option (TableState A)) → table_of tables name ≡ o → option_and_then (λ (t : TableState A). get fields_cmp t.keyed key) o ≡ Some row → There tables name key (Some row)
      inner None is got = cc
      inner (Some table) is got = record { table = table; is = is; found = got }

  -- where the one has a table so has the other, with the same columns
  beside-of : (left tables : Tables A) → SameOthers left tables → (name : List ℕ) (table : TableState A) → table_of left name ≡ Some table → (key : Fields A) (row : Option (Fields A)) → row_at tables name key ≡ row
      → (h : There tables name key row) × (h.table.schema ≡ table.schema)
  beside-of left tables same name table is key row at = inner (table_of tables name) refl
    where
      inner : (o : Option (TableState A)) → table_of tables name ≡ o → (h : There tables name key row) × (h.table.schema ≡ table.schema)
      inner None none = absurd (not-both (others_of tables name) (others_in table) (ap (option_map others_in) none) (same name ∙ ap (option_map others_in) is))
      inner (Some its) there =
          let e : Some (others_in its) ≡ Some (others_in table) = sym (ap (option_map others_in) there) ∙ same name ∙ ap (option_map others_in) is in (
            record { table = its; is = there; found = sym (row-found tables name its key there) ∙ at },
            ap (λ o. o.0) (same_Some (others_in its) (others_in table) e),
          )

  -- ---- one row

  -- the row is now as it was left, and nothing else has changed
  pub record Led (left before : Tables A) (name : List ℕ) (key : Fields A) (after : Tables A) : Type 0 where
    pub at : row_at after name key ≡ row_at left name key
    pub beside : (other : List ℕ) (its : Fields A) → (name ≡ other → key ≡ its → ⊥) → row_at after other its ≡ row_at before other its
    pub others : SameOthers left after
    pub each : EachRises after

  abbrev LedTo : Tables A → Tables A → List ℕ → Fields A → Result (TxnState A) Refusal → Type 0
  LedTo left before name key (Ok txn) = Led left before name key txn.workspace.database
  LedTo left before name key (Err why) = ⊥

  -- under the key is what was put there
  put-at : (tables : Tables A) (name : List ℕ) (table : TableState A) (key : Fields A) → IsRising table → (after : Option (Fields A)) → row_at (put_entry bytes_cmp tables name (with_row table key after)) name key ≡ after
  put-at tables name table key rises None =
      ap (option_and_then (λ (t : TableState A). get fields_cmp t.keyed key)) (get_put bytes_cmp name (with_row table key None) (tied_itself nat_list_cmp_total name) tables)
      ∙ taken-out fields_cmp fields_cmp_total table.keyed key rises.keys
  put-at tables name table key rises (Some row) =
      ap (option_and_then (λ (t : TableState A). get fields_cmp t.keyed key)) (get_put bytes_cmp name (with_row table key (Some row)) (tied_itself nat_list_cmp_total name) tables)
      ∙ get_put fields_cmp key row (tied_itself fields_cmp_total key) table.keyed

  -- an operation that puts the row that was left under the key, or takes the row out
  module _ (left : Tables A) (txn : TxnState A) (same : SameOthers left txn.workspace.database) (each : EachRises txn.workspace.database) (name : List ℕ) (key : Fields A) (table : TableState A)
      (there : table_of txn.workspace.database name ≡ Some table) (after : Option (Fields A)) (is_left : row_at left name key ≡ after) (rises : IsRising (with_row table key after))
      (action : Action A) (acts : act table action ≡ Ok (with_row table key after)) where
    abbrev D : Tables A
    D = txn.workspace.database

    abbrev put : Tables A
    put = put_entry bytes_cmp D name (with_row table key after)

    abbrev its_op : Change A
    its_op = directly name action

    steps : step D its_op ≡ Ok put
    steps = ap (λ o. stepped D o its_op) there ∙ ap (in_place D name) acts

    told : (r : Result (WorkspaceState A) Refusal) → after_op txn.workspace its_op ≡ r
        → LedTo left D name key (unless_refused (done r) (record (traced txn (Op its_op)) { workspace = calls.unless_refused txn.workspace r }))
        → LedTo left D name key (made_in name (Some action) txn)
    told r is h = subst (λ x. LedTo left D name key (unless_refused (done x) (record (traced txn (Op its_op)) { workspace = calls.unless_refused txn.workspace x }))) (sym is) h

    made-led : LedTo left D name key (made_in name (Some action) txn)
    made-led =
        told (Ok (record txn.workspace { database = put; ops = txn.workspace.ops ++ its_op ∷ [] })) (ap (op_made txn.workspace its_op) steps)
        (record {
          at = put-at D name table key (each-found IsRising D name table each there) after ∙ sym is_left;
          beside = λ other its apart. put_stays D name table there key after other its apart;
          others = λ other. put-others D name table there key after other ∙ same other;
          each = each-put IsRising D name (with_row table key after) each rises;
        })

  module _ (left : Tables A) (lefts : EachRises left) (txn : TxnState A) (same : SameOthers left txn.workspace.database) (each : EachRises txn.workspace.database) (name : List ℕ) (key : Fields A) where
    abbrev now : Tables A
    now = txn.workspace.database

    nothing-led : row_at now name key ≡ row_at left name key → LedTo left now name key (made_in name None txn)
    nothing-led at = record { at = at; beside = λ other its apart. refl; others = same; each = each }

    insert-led : (row : Fields A) → row_at now name key ≡ None → row_at left name key ≡ Some row → LedTo left now name key (made_in name (Some (Insert row)) txn)
    insert-led row none some =
        let l = there-of left name key row some in
        let own = own-row l.table key row (each-found IsRising left name l.table lefts l.is).sound l.found in
        let b = beside-of left now same name l.table l.is key None none in
        let t = b.0.table in
        let wide : length row ≡ length t.schema = own.0 ∙ ap length (sym b.1) in
        let its : key_of t.schema row ≡ Some key = ap (λ s. key_of s row) b.1 ∙ own.1 in
        made-led left txn same each name key t b.0.is (Some row) some (with_key-rises t key row (each-found IsRising now name t each b.0.is) wide its) (Insert row) (act_insert_new t key row wide its b.0.found)

    delete-led : (before : Fields A) → row_at now name key ≡ Some before → row_at left name key ≡ None → LedTo left now name key (made_in name (Some (Delete (Key key))) txn)
    delete-led before some none =
        let h = there-of now name key before some in
        made-led left txn same each name key h.table h.is None none (without-rises h.table (Key key) (each-found IsRising now name h.table each h.is)) (Delete (Key key)) (act_delete h.table key before h.found)

    update-led : (before row : Fields A) → row_at now name key ≡ Some before → row_at left name key ≡ Some row → LedTo left now name key (made_in name (Some (Update (Key key) (enumerate_from 0 row))) txn)
    update-led before row some to =
        let l = there-of left name key row to in
        let own = own-row l.table key row (each-found IsRising left name l.table lefts l.is).sound l.found in
        let b = beside-of left now same name l.table l.is key (Some before) some in
        let t = b.0.table in
        let rises = each-found IsRising now name t each b.0.is in
        let was = own-row t key before rises.sound b.0.found in
        let wide : length row ≡ length t.schema = own.0 ∙ ap length (sym b.1) in
        let its : key_of t.schema row ≡ Some key = ap (λ s. key_of s row) b.1 ∙ own.1 in
        let columns = every_column 0 row in
        let fits : are_columns (length t.schema) (columns_of (enumerate_from 0 row)) ≡ true =
        ap (λ fields. are_columns (length t.schema) (columns_of fields)) columns ∙ are_columns-assigned (length t.schema) (map Some row) (let l = length-map row Some in omega (arith, l, wide)) in
        let becomes : row_with (enumerate_from 0 row) before ≡ row =
        ap (λ fields. row_with fields before) columns ∙ row_with-assigned (map Some row) before ∙ set_all row before (was.0 ∙ sym wide) in
        made-led left txn same each name key t b.0.is (Some row) to (with_key-rises t key row rises wide its) (Update (Key key) (enumerate_from 0 row)) (act_update t key row (enumerate_from 0 row) before fits b.0.found becomes its)

    same-led : (before row : Fields A) → row_at now name key ≡ Some before → row_at left name key ≡ Some row → (b : Bool) → fields_eq before row ≡ b
        → LedTo left now name key (made_in name (cond b None (Some (Update (Key key) (enumerate_from 0 row)))) txn)
    same-led before row some to true is = nothing-led (some ∙ ap Some ((fields_eq_decides before row).0 is) ∙ sym to)
    same-led before row some to false is = update-led before row some to

    leading-led : (before after : Option (Fields A)) → row_at now name key ≡ before → row_at left name key ≡ after → LedTo left now name key (made_in name (leading key before after) txn)
    leading-led None None was is = nothing-led (was ∙ sym is)
    leading-led None (Some row) was is = insert-led row was is
    leading-led (Some before) None was is = delete-led before was is
    leading-led (Some before) (Some row) was is = same-led before row was is (fields_eq before row) refl

  -- ---- the rows, one after another

  abbrev AllLed : Tables A → Tables A → List (List ℕ × Fields A) → Result (TxnState A) Refusal → Type 0
  AllLed left before rows (Ok txn) =
      ((name : List ℕ) (key : Fields A) → (row_at txn.workspace.database name key ≡ row_at left name key) ⊎ ((row_at txn.workspace.database name key ≡ row_at before name key) × (IsAmong name key rows → ⊥)))
      × SameOthers left txn.workspace.database
  AllLed left before rows (Err why) = ⊥

  module _ (left : Tables A) (lefts : EachRises left) where
    one-more : (before : Tables A) (row : List ℕ × Fields A) (rows : List (List ℕ × Fields A)) (mid : Tables A) → Led left before row.0 row.1 mid → (r : Result (TxnState A) Refusal) → AllLed left mid rows r → AllLed left before (row ∷ rows) r
    one-more before row rows mid led (Err why) h = h
    one-more before row rows mid led (Ok txn) h = (λ name key. by_row name key (h.0 name key), h.1)
      where
        after : Tables A
        after = txn.workspace.database

        Either : List ℕ → Fields A → Type 0
        Either name key = (row_at after name key ≡ row_at left name key) ⊎ ((row_at after name key ≡ row_at before name key) × (IsAmong name key (row ∷ rows) → ⊥))

        by_key : (name : List ℕ) (key : Fields A) → row_at after name key ≡ row_at mid name key → (IsAmong name key rows → ⊥) → (row.0 ≡ name) ⊎ (row.0 ≡ name → ⊥) → (row.1 ≡ key) ⊎ (row.1 ≡ key → ⊥) → Either name key
        by_key name key is none (inl e) (inl d) = inl (is ∙ subst (λ n. row_at mid n key ≡ row_at left n key) e (subst (λ k. row_at mid row.0 k ≡ row_at left row.0 k) d led.at))
        by_key name key is none (inr e) d = inr (is ∙ led.beside name key (λ n k. e n), λ among. ⊎_elim (λ here. e here.0) none among)
        by_key name key is none e (inr d) = inr (is ∙ led.beside name key (λ n k. d k), λ among. ⊎_elim (λ here. d here.1) none among)

        by_row : (name : List ℕ) (key : Fields A) → (row_at after name key ≡ row_at left name key) ⊎ ((row_at after name key ≡ row_at mid name key) × (IsAmong name key rows → ⊥)) → Either name key
        by_row name key (inl is) = inl is
        by_row name key (inr h) = by_key name key h.0 h.1 (decided bytes_cmp bytes_cmp-Equal row.0 name) (decided fields_cmp fields_cmp-Equal row.1 key)

    pub rows-led : (rows : List (List ℕ × Fields A)) (txn : TxnState A) → SameOthers left txn.workspace.database → EachRises txn.workspace.database → AllLed left txn.workspace.database rows (rows_led left rows txn)
    rows-led [] txn same each = (λ name key. inr (refl, λ among. among), same)
    rows-led (row ∷ rows) txn same each =
        go (λ after others rises. rows-led rows after others rises) (row_led left row.0 row.1 txn)
        (leading-led left lefts (traced txn (Get row.0 (Key row.1))) same each row.0 row.1 (row_at txn.workspace.database row.0 row.1) (row_at left row.0 row.1) refl refl)
      where
        go : ((after : TxnState A) → SameOthers left after.workspace.database → EachRises after.workspace.database → AllLed left after.workspace.database rows (rows_led left rows after))
            → (r : Result (TxnState A) Refusal) → LedTo left txn.workspace.database row.0 row.1 r → AllLed left txn.workspace.database (row ∷ rows) (and_then r (rows_led left rows))
        go further (Err why) h = h
        go further (Ok after) h = one-more txn.workspace.database row rows after.workspace.database h (rows_led left rows after) (further after h.others h.each)

  -- ---- one operation

  -- what a call that was answered leaves
  pub made-answered : (r : Result (Unit {0}) (Fault Refusal)) (call : Asked A) (old new : TxnState A) → IsAnswered (λ _. Done) r call old new
      → LeavesUnlessMemory r (unless_refused (answer_to old.workspace call) (traced old call)) new
  made-answered (Ok x) call old new h = ap (λ a. unless_refused a (traced old call)) (sym h.0) ∙ ap Ok (sym h.1)
  made-answered (Err (Refused why)) call old new h = ap (λ a. unless_refused a (traced old call)) (sym h.0)
  made-answered (Err OutOfMemory) call old new h = tt

  -- ---- a loop over the rows

  module _ (left : Tables A) (rows : List (List ℕ × Fields A)) (i : ℕ) (row : List ℕ × Fields A) (front : drop i rows ≡ row ∷ drop (i + 1) rows) (txn : TxnState A) where
    pub led-more : (after : TxnState A) → row_led left row.0 row.1 txn ≡ Ok after → rows_led left (drop (i + 1) rows) after ≡ rows_led left (drop i rows) txn
    led-more after is = sym (ap (λ rest. rows_led left rest txn) front ∙ ap (λ r. and_then r (rows_led left (drop (i + 1) rows))) is)

    pub led-refused : (why : Refusal) → row_led left row.0 row.1 txn ≡ Err why → rows_led left (drop i rows) txn ≡ Err why
    led-refused why is = ap (λ rest. rows_led left rest txn) front ∙ ap (λ r. and_then r (rows_led left (drop (i + 1) rows))) is

    pub led-faulted : (X : Type 0) (fault : Fault Refusal) (after : TxnState A) (all : Result (TxnState A) Refusal) → rows_led left (drop i rows) txn ≡ all
        → LeavesUnlessMemory {X = X} (Err fault) (row_led left row.0 row.1 txn) after → AnswersUnlessMemory {X = TxnState A} (Err fault) all
    led-faulted X (Refused why) after all is h = sym is ∙ led-refused why h
    led-faulted X OutOfMemory after all is h = tt

  -- ---- what stands

  -- it stands, and is on the same snapshot
  abbrev IsSoundOn : SnapshotState A → TxnState A → Type 0
  IsSoundOn base txn = IsSound txn.workspace × (txn.workspace.base ≡ base)

  made-base : (txn : WorkspaceState A) (op : Change A) (base : SnapshotState A) → txn.base ≡ base → (r : Result (Tables A) Refusal) → IfOk (op_made txn op r) (λ next. next.base ≡ base)
  made-base txn op base is (Ok after) = is
  made-base txn op base is (Err why) = tt

  made-IsSoundOn : (base : SnapshotState A) (name : List ℕ) (o : Option (Action A)) (txn : TxnState A) → IsSoundOn base txn → IfOk (made_in name o txn) (IsSoundOn base)
  made-IsSoundOn base name None txn h = h
  made-IsSoundOn base name (Some action) txn h =
      go (after_op txn.workspace (directly name action)) (op-IsSound txn.workspace (directly name action) h.0) (made-base txn.workspace (directly name action) base h.1 (step txn.workspace.database (directly name action)))
    where
      go : (r : Result (WorkspaceState A) Refusal) → IfOk r IsSound → IfOk r (λ next. next.base ≡ base)
          → IfOk (unless_refused (done r) (record (traced txn (Op (directly name action))) { workspace = calls.unless_refused txn.workspace r })) (IsSoundOn base)
      go (Ok after) stands on = (stands, on)
      go (Err why) stands on = tt

  rows-IsSoundOn : (left : Tables A) (base : SnapshotState A) (rows : List (List ℕ × Fields A)) (txn : TxnState A) → IsSoundOn base txn → IfOk (rows_led left rows txn) (IsSoundOn base)
  rows-IsSoundOn left base [] txn h = h
  rows-IsSoundOn left base (row ∷ rows) txn h =
      go (λ after h. rows-IsSoundOn left base rows after h) (row_led left row.0 row.1 txn)
      (made-IsSoundOn base row.0 (leading row.1 (row_at txn.workspace.database row.0 row.1) (row_at left row.0 row.1)) (traced txn (Get row.0 (Key row.1))) h)
    where
      go : ((after : TxnState A) → IsSoundOn base after → IfOk (rows_led left rows after) (IsSoundOn base))
          → (r : Result (TxnState A) Refusal) → IfOk r (IsSoundOn base) → IfOk (and_then r (rows_led left rows)) (IsSoundOn base)
      go further (Ok after) k = further after k
      go further (Err why) k = tt

  -- ---- the laws

  all-led : (base : SnapshotState A) (s : ApplierState A) → EachRises base.database → EachRises s.progress.applied.database → KeepsTo base.database s
      → AllLed s.progress.applied.database base.database (looked_at s.filter s.blob) (transaction_of base s)
  all-led base s each lefts keeps = rows-led s.progress.applied.database lefts (looked_at s.filter s.blob) (begin_traced base) (λ name. sym (keeps.others name)) each

  pub leaves-rows : (base : SnapshotState A) (s : ApplierState A) (txn : TxnState A) → EachRises base.database → EachRises s.progress.applied.database → KeepsTo base.database s → transaction_of base s ≡ Ok txn
      → SameRows s.progress.applied.database txn.workspace.database
  leaves-rows base s txn each lefts keeps is =
      let left = s.progress.applied.database in
      let rows = looked_at s.filter s.blob in
      let h : AllLed left base.database rows (Ok txn) = subst (AllLed left base.database rows) is (all-led base s each lefts keeps) in
      record {
        rows = λ name key. ⊎_elim (λ same. same) (λ was. was.0 ∙ sym (keeps.stays name key was.1)) (h.0 name key);
        others = h.1;
      }

  pub never-refused : (base : SnapshotState A) (s : ApplierState A) (why : Refusal) → EachRises base.database → EachRises s.progress.applied.database → KeepsTo base.database s → transaction_of base s ≡ Err why → ⊥
  never-refused base s why each lefts keeps is =
      subst (AllLed s.progress.applied.database base.database (looked_at s.filter s.blob)) is (all-led base s each lefts keeps)

  pub accepted-on : (base : SnapshotState A) (s : ApplierState A) (txn : TxnState A) → transaction_of base s ≡ Ok txn → Leaves base.database txn.workspace.ops txn.workspace.database
  accepted-on base s txn is =
      let h : IsSoundOn base txn = subst (λ r. IfOk r (IsSoundOn base)) is (rows-IsSoundOn s.progress.applied.database base (looked_at s.filter s.blob) (begin_traced base) (begin-IsSound base, refl)) in
      subst (λ (b : SnapshotState A). Leaves b.database txn.workspace.ops txn.workspace.database) h.1 h.0.left
