-- A row that no change names stays as it was, whatever the command.
use Rattle.std.proofs.Common.{◌≡◌, ℕ, Bool, true, false, Option, Some, None, Result, Ok, Err, IfOk, List, [], ◌∷◌, refl, sym, ap, ◌∙◌, arith}
use Rattle.std.specs.Prelude.{is_some}
use Rattle.std.specs.List.{list_any}
use Rattle.std.specs.Cmp.Lexicographic.{bytes_decides}
use Rattle.std.proofs.lemmas.List.Folds.{list_any-append}
use Rattle.cap_row.specs.Fields.{Fields}
use Rattle.cap_table.specs.Table.{TableState}
use Rattle.cap_table.specs.Operation.{empty_table}
use Rattle.cap_database.specs.Carried.{is_of_row}
use Rattle.cap_database.specs.Operation.{changed_rows, changes, changes_in, run}
use Rattle.cap_database.specs.Outcome.{OutcomeState}
use Rattle.cap_database.specs.Read.{row_at}
use Rattle.cap_database.specs.Snapshot.{SnapshotState}
use Rattle.cap_database.specs.Tables.{Tables, create, schema_of, table_of}
use Rattle.cap_database.specs.declared.op.Op.{Op}
use Rattle.cap_database.specs.declared.refused_at.RefusedAt.{RefusedAt}
use Rattle.cap_database.proofs.KeptLemmas.{if_ok}
use Rattle.cap_database.proofs.StayLemmas.{Leaves, named-table, put-stays, run-leaves}
use Rattle.cap_apply.specs.Apply.{apply}
use Rattle.cap_apply.proofs.StayLemmas.{MoreChanges, apply-more}
use Rattle.cap_core.specs.declared.event.Event.{Event}
use Rattle.cap_core.specs.History.{event_effect}
use Rattle.cap_core.specs.Outcome.{Effect, no_effect}
use Rattle.cap_core.proofs.CarriedLemmas.{event-each}

module _ {A : Type 0} where
  module _ (name : List ℕ) (key : Fields A) where
    abbrev Stays : Tables A → Effect A → Type 0
    Stays tables effect = list_any (is_of_row name key) effect.changes ≡ false → row_at effect.database name key ≡ row_at tables name key

    pub row_stays : (now : SnapshotState A) (event : Event A) → list_any (is_of_row name key) (event_effect now event).changes ≡ false
        → row_at (event_effect now event).database name key ≡ row_at now.database name key
    row_stays now event =
        let tables = now.database in
        event-each now (Stays tables) (λ _. refl) event (λ other schema. grind (arith, put-stays name key tables other (empty_table schema)))
        (λ ops. if_ok (Leaves name key tables) (λ left. Stays tables (record { database = left.database; changes = left.changes; report = None })) (λ left leaves. leaves.stays) (run tables ops) (run-leaves name key ops tables))
        (λ blob policy quiet _. if_ok (λ left. MoreChanges name key tables [] left.database left.changes) (λ left. Stays tables (record { database = left.database; changes = left.changes; report = Some left.report }))
        (λ left more unnamed. more.stays (ap (list_any (is_of_row name key)) (sym more.are) ∙ unnamed)) (apply tables blob policy) (apply-more name key tables blob policy))

    -- ---- the tables of changes are there, and stay with their columns

    module _ (runs : (tables : Tables A) (ops : List (Op A)) → IfOk (run tables ops) (λ left. (other : List ℕ) → schema_of left.database other ≡ schema_of tables other))
        (creates : (tables : Tables A) (other : List ℕ) (schema : List Bool) → IfOk (create tables other schema) (λ after. (table : List ℕ) (columns : List Bool) → schema_of tables table ≡ Some columns → schema_of after table ≡ Some columns)) where
      abbrev RunThere : Tables A → Result (OutcomeState A) RefusedAt → Type 0
      RunThere tables r = IfOk r (λ left. list_any (is_of_row name key) left.changes ≡ true → is_some (schema_of tables name) ≡ true)

      op-there : (tables : Tables A) (op : Op A) (found : Option (TableState A)) → table_of tables op.table ≡ found → list_any (is_of_row name key) (changes_in found op) ≡ true → is_some (schema_of tables name) ≡ true
      op-there tables op None there named = cc
      op-there tables op (Some table) there named = grind (arith, (bytes_decides name op.table).0 (named-table name key op.table op.cause (changed_rows table op.action) named))

      run-there : (ops : List (Op A)) (tables : Tables A) → RunThere tables (run tables ops)
      run-there [] tables = λ named. cc
      run-there (op ∷ ops) tables =
          grind (arith, λ (next : Tables A). run-there ops next, runs tables (op ∷ []), op-there tables op (table_of tables op.table) refl, list_any-append (is_of_row name key) (changes tables op))

      -- what an effect keeps of the tables
      pub record Keeps (tables : Tables A) (effect : Effect A) : Type 0 where
        pub there : list_any (is_of_row name key) effect.changes ≡ true → is_some (schema_of tables name) ≡ true
        pub columns : (columns : List Bool) → schema_of tables name ≡ Some columns → schema_of effect.database name ≡ Some columns

      ran-keeps : (tables : Tables A) (r : Result (OutcomeState A) RefusedAt) → RunThere tables r → IfOk r (λ left. (other : List ℕ) → schema_of left.database other ≡ schema_of tables other)
          → IfOk r (λ left. Keeps tables (record { database = left.database; changes = left.changes; report = None }))
      ran-keeps tables (Ok left) there same = record { there = there; columns = λ columns is. same name ∙ is }
      ran-keeps tables (Err refused) there same = tt

      pub event-keeps : (now : SnapshotState A) (event : Event A) → Keeps now.database (event_effect now event)
      event-keeps now event =
          let tables = now.database in
          event-each now (Keeps tables) (record { there = λ named. cc; columns = λ columns is. is }) event
          (λ other schema. if_ok (λ after. (table : List ℕ) (columns : List Bool) → schema_of tables table ≡ Some columns → schema_of after table ≡ Some columns) (λ after. Keeps tables (no_effect after))
          (λ after keeps. record { there = λ named. cc; columns = keeps name }) (create tables other schema) (creates tables other schema))
          (λ ops. ran-keeps tables (run tables ops) (run-there ops tables) (runs tables ops))
          (λ blob policy quiet _. if_ok (λ left. MoreChanges name key tables [] left.database left.changes) (λ left. Keeps tables (record { database = left.database; changes = left.changes; report = Some left.report }))
          (λ left more. record { there = λ named. more.there (ap (list_any (is_of_row name key)) (sym more.are) ∙ named); columns = λ columns is. more.columns ∙ is }) (apply tables blob policy) (apply-more name key tables blob policy))
