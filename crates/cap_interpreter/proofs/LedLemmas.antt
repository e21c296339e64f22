-- The transaction that makes what an application leaves is on the snapshot with which the application began.
use Rattle.std.proofs.Common.{◌≡◌, ℕ, List, [], ◌∷◌, Option, Some, None, Result, Ok, Err, refl, subst, ◌∙◌}
use Rattle.cap_value.specs.declared.refusal.Refusal.{Refusal}
use Rattle.cap_row.specs.Fields.{Fields}
use Rattle.cap_table.specs.declared.row_ref.RowRef.TheVariants.{Key}
use Rattle.cap_database.specs.Read.{row_at}
use Rattle.cap_database.specs.Snapshot.{SnapshotState}
use Rattle.cap_database.specs.Tables.{Tables}
use Rattle.cap_database.specs.declared.op.Action.{Action}
use Rattle.cap_txn.specs.Calls.{answer_to}
use Rattle.cap_txn.specs.Transaction.{IsTraced, TxnState, begin_traced, traced}
use Rattle.cap_txn.specs.declared.answered_call.Answer.{Answer}
use Rattle.cap_txn.specs.declared.answered_call.Answer.TheVariants as told
use Rattle.cap_txn.specs.declared.answered_call.Asked.{Asked}
use Rattle.cap_txn.specs.declared.answered_call.Asked.TheVariants as asked
use Rattle.cap_apply.specs.Apply.{and_then}
use Rattle.cap_apply.specs.Operations.{directly}
use Rattle.cap_applier.specs.Looked.{looked_at}
use Rattle.cap_applier.specs.Transaction.{leading, made_in, row_led, rows_led, unless_refused}
use Rattle.cap_core.specs.declared.event.Event.{Event}
use Rattle.cap_interpreter.specs.Application.{ApplicationState, transaction_left}
use Rattle.cap_interpreter.specs.Lines.{IsApplying, IsOn}
use Rattle.cap_interpreter.proofs.OpenLemmas.{IsKept, IsNew, call_base}
use Rattle.cap_interpreter.proofs.StopLemmas.{ok_same}

module _ {A : Type 0} (kept : IsKept A) where
  -- it is what calls make of a transaction on this snapshot
  record IsFrom (base : SnapshotState A) (txn : TxnState A) : Type 0 where
    on : txn.workspace.base ≡ base
    calls : IsTraced txn

  one_call : (base : SnapshotState A) (txn : TxnState A) (call : Asked A) → IsFrom base txn → IsFrom base (traced txn call)
  one_call base txn call from = record { on = call_base txn.workspace call ∙ from.on; calls = kept txn call from.calls }

  one_made : (base : SnapshotState A) (answer : Answer A) (next txn : TxnState A) → unless_refused answer next ≡ Ok txn → IsFrom base next → IsFrom base txn
  one_made base (told.Refused why) next txn is from = absurd cc
  one_made base told.Done next txn is from = subst (IsFrom base) (ok_same next txn is) from
  one_made base (told.Row row) next txn is from = subst (IsFrom base) (ok_same next txn is) from
  one_made base (told.Rows rows) next txn is from = subst (IsFrom base) (ok_same next txn is) from
  one_made base (told.Mark mark) next txn is from = subst (IsFrom base) (ok_same next txn is) from

  one_action : (base : SnapshotState A) (name : List ℕ) (action : Option (Action A)) (from txn : TxnState A) → made_in name action from ≡ Ok txn → IsFrom base from → IsFrom base txn
  one_action base name None from txn is held = subst (IsFrom base) (ok_same from txn is) held
  one_action base name (Some action) from txn is held =
      let call = asked.Op (directly name action) in
      one_made base (answer_to from.workspace call) (traced from call) txn is (one_call base from call held)

  one_row : (base : SnapshotState A) (left : Tables A) (name : List ℕ) (key : Fields A) (from txn : TxnState A) → row_led left name key from ≡ Ok txn → IsFrom base from → IsFrom base txn
  one_row base left name key from txn is held =
      let looked = asked.Get name (Key key) in
      one_action base name (leading key (row_at from.workspace.database name key) (row_at left name key)) (traced from looked) txn is (one_call base from looked held)

  more_rows : (base : SnapshotState A) (left : Tables A) (rows : List (List ℕ × Fields A)) (txn : TxnState A) (first : Result (TxnState A) Refusal)
      → ((next : TxnState A) → rows_led left rows next ≡ Ok txn → IsFrom base next → IsFrom base txn) → and_then first (rows_led left rows) ≡ Ok txn → ((next : TxnState A) → first ≡ Ok next → IsFrom base next) → IsFrom base txn
  more_rows base left rows txn (Err why) others is held = absurd cc
  more_rows base left rows txn (Ok next) others is held = others next is (held next refl)

  all_rows : (base : SnapshotState A) (left : Tables A) (rows : List (List ℕ × Fields A)) (from txn : TxnState A) → rows_led left rows from ≡ Ok txn → IsFrom base from → IsFrom base txn
  all_rows base left [] from txn is held = subst (IsFrom base) (ok_same from txn is) held
  all_rows base left (row ∷ rows) from txn is held =
      more_rows base left rows txn (row_led left row.0 row.1 from) (λ next led here. all_rows base left rows next txn led here) is
      (λ next made. one_row base left row.0 row.1 from next made held)

  pub committed_on : IsNew A → (h : List (Event A)) (app : ApplicationState A) (txn : TxnState A) → IsApplying h app → transaction_left app ≡ Ok txn → IsOn h txn
  committed_on new h app txn on is =
      let begun : IsFrom app.base (begin_traced app.base) = record { on = refl; calls = new app.base } in
      let made = all_rows app.base app.applier.progress.applied.database (looked_at app.applier.filter app.applier.blob) (begin_traced app.base) txn is begun in
      record {
        front = on.front;
        rest = on.rest;
        parts = on.parts;
        base = made.on ∙ on.base;
        traced = made.calls;
      }
