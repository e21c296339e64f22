-- The transaction that makes what an application left.
use Rattle.std.specs.Prelude.{ℕ, Option, Some, None, Result, Ok, Err, List, [], ◌∷◌, if◌then◌else◌}
use Rattle.std.specs.List.{enumerate_from}
use Rattle.cap_value.specs.declared.refusal.Refusal.{Refusal}
use Rattle.cap_row.specs.Fields.{Fields}
use Rattle.cap_row.specs.Key.{fields_eq}
use Rattle.cap_table.specs.declared.row_ref.RowRef.TheVariants.{Key}
use Rattle.cap_database.specs.Read.{row_at}
use Rattle.cap_database.specs.Snapshot.{SnapshotState}
use Rattle.cap_database.specs.Tables.{Tables}
use Rattle.cap_database.specs.declared.op.Action.{Action}
use Rattle.cap_database.specs.declared.op.Action.TheVariants.{Insert, Update, Delete}
use Rattle.cap_txn.specs.Calls.{answer_to}
use Rattle.cap_txn.specs.Transaction.{TxnState, begin_traced, traced}
use Rattle.cap_txn.specs.declared.answered_call.Answer.{Answer}
use Rattle.cap_txn.specs.declared.answered_call.Answer.TheVariants.{Refused}
use Rattle.cap_txn.specs.declared.answered_call.Asked.TheVariants.{Op, Get}
use Rattle.cap_apply.specs.Apply.{and_then}
use Rattle.cap_apply.specs.Operations.{directly}
use Rattle.cap_applier.specs.Applier.{ApplierState}
use Rattle.cap_applier.specs.Looked.{looked_at}

module _ {A : Type 0} where
  -- what makes of the row under a key the other one: nothing where they are the same
  abbrev pub leading : Fields A → Option (Fields A) → Option (Fields A) → Option (Action A)
  leading key None None = None
  leading key None (Some row) = Some (Insert row)
  leading key (Some before) None = Some (Delete (Key key))
  leading key (Some before) (Some row) =
      if fields_eq before row then None else Some (Update (Key key) (enumerate_from 0 row))

  abbrev pub unless_refused : Answer A → TxnState A → Result (TxnState A) Refusal
  unless_refused (Refused why) txn = Err why
  unless_refused _ txn = Ok txn

  -- a direct operation on the table of the name, if there is one to make
  abbrev pub made_in : List ℕ → Option (Action A) → TxnState A → Result (TxnState A) Refusal
  made_in name None txn = Ok txn
  made_in name (Some action) txn =
      unless_refused (answer_to txn.workspace (Op (directly name action))) (traced txn (Op (directly name action)))

  -- the transaction looks at the row, and makes it the one that was left
  abbrev pub row_led : Tables A → List ℕ → Fields A → TxnState A → Result (TxnState A) Refusal
  row_led left name key txn =
      made_in name (leading key (row_at txn.workspace.database name key) (row_at left name key))
      (traced txn (Get name (Key key)))

  -- the same of each row
  abbrev pub rows_led : Tables A → List (List ℕ × Fields A) → TxnState A → Result (TxnState A) Refusal
  rows_led left [] txn = Ok txn
  rows_led left (row ∷ rows) txn = and_then (row_led left row.0 row.1 txn) (rows_led left rows)

  -- of an application that began with this snapshot
  abbrev pub transaction_of : SnapshotState A → ApplierState A → Result (TxnState A) Refusal
  transaction_of base s =
      rows_led s.progress.applied.database (looked_at s.filter s.blob) (begin_traced base)
