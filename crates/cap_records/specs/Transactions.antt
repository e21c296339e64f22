-- The calls of a transaction whose arguments are bytes.
use Rattle.std.specs.Prelude.{◌≡◌, ℕ, ◌⊎◌, List, Result, Ok, Err}
use Rattle.std.specs.Global.{Global}
use Rattle.cap_value.specs.declared.memory.Fault.{Fault}
use Rattle.cap_value.specs.declared.memory.Fault.TheVariants as fault
use Rattle.cap_database.specs.declared.op.Op.{Op}
use Rattle.cap_txn.specs.Batch.{refused_push}
use Rattle.cap_txn.specs.Transaction.{IsAnsweredUnless, TxnState, traced}
use Rattle.cap_txn.specs.declared.answered_call.Answer.TheVariants.{Done}
use Rattle.cap_txn.specs.declared.answered_call.Asked.{Asked}
use Rattle.cap_txn.specs.declared.answered_call.Asked.TheVariants as asked
use Rattle.cap_records.specs.Arguments.{row_argument, table_argument}
use Rattle.cap_records.specs.Fault.{HandsOn, ◌>>=◌}
use Rattle.cap_records.specs.Rows.{RowCursorState}
use Rattle.cap_records.specs.declared.fault.RecordFault.{RecordFault}

-- the operation is made by the transaction's own call
abbrev pub MakesOp : Op Global → TxnState Global → TxnState Global → Result (Unit {0}) (Fault RecordFault) →
    Type 0
MakesOp op old new result =
    HandsOn {X = Unit {0}}
    (λ answer. IsAnsweredUnless (refused_push old.workspace.ops) (λ _. Done) answer (asked.Op op) old new) result

-- the call that the arguments make
abbrev pub get_asked : List ℕ → List ℕ → ℕ → Result (Asked Global) RecordFault
get_asked table key id = row_argument table key id >>= (λ names. Ok (asked.Get names.0 names.1))

abbrev pub scan_asked : List ℕ → Result (Asked Global) RecordFault
scan_asked table = table_argument table >>= (λ name. Ok (asked.Scan name))

-- The call is the last of the trace, also where the transaction refuses it. Arguments that make no call leave
-- the transaction as it was.
abbrev pub after_asked : TxnState Global → Result (Asked Global) RecordFault → TxnState Global
after_asked txn (Ok call) = traced txn call
after_asked txn (Err why) = txn

-- the same, and without memory nothing has changed
abbrev pub LeavesAsked : TxnState Global → TxnState Global → Result (Asked Global) RecordFault →
    Result RowCursorState (Fault RecordFault) → Type 0
LeavesAsked old new call (Ok cursor) = new ≡ after_asked old call
LeavesAsked old new call (Err (fault.Refused why)) = new ≡ after_asked old call
LeavesAsked old new call (Err fault.OutOfMemory) = new ≡ old

-- the same, but that the rows may have no memory after the call was answered
abbrev pub LeavesScanned : TxnState Global → TxnState Global → Result (Asked Global) RecordFault →
    Result RowCursorState (Fault RecordFault) → Type 0
LeavesScanned old new call (Ok cursor) = new ≡ after_asked old call
LeavesScanned old new call (Err (fault.Refused why)) = new ≡ after_asked old call
LeavesScanned old new call (Err fault.OutOfMemory) = (new ≡ old) ⊎ (new ≡ after_asked old call)
