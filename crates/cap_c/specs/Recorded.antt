-- What a call whose arguments are records leaves with its caller.
use Rattle.std.specs.Prelude.{◌≡◌, ℕ, List, Option, Some, None, Result, Ok, Err, OnErr, IfOk}
use Rattle.std.specs.Global.{Global}
use Rattle.std.specs.Result.{result_err}
use Rattle.cap_value.specs.Memory.{AnswersUnlessMemory, LeavesUnlessMemory, RefusesFirst}
use Rattle.cap_value.specs.declared.memory.Fault.{Fault}
use Rattle.cap_value.specs.declared.memory.Fault.TheVariants as stop
use Rattle.cap_value.specs.declared.refusal.Refusal.{Refusal}
use Rattle.cap_database.specs.declared.cause.Cause.{Cause}
use Rattle.cap_database.specs.declared.op.Op.{Op}
use Rattle.cap_txn.specs.Batch.{BatchState, push, refused_push}
use Rattle.cap_txn.specs.Transaction.{IsAnswered, IsNewMark, TxnState, batch_of}
use Rattle.cap_txn.specs.declared.answered_call.Answer.TheVariants as answered
use Rattle.cap_txn.specs.declared.answered_call.Asked.TheVariants as asked
use Rattle.cap_txn.specs.declared.savepoint.Mark.{Mark}
use Rattle.cap_records.specs.Arguments.{row_argument, table_argument}
use Rattle.cap_records.specs.Fault.{HandsOn}
use Rattle.cap_records.specs.Reads.{get_in, scan_in}
use Rattle.cap_records.specs.Rows.{RowCursorState}
use Rattle.cap_records.specs.Transactions.{LeavesAsked, LeavesScanned, MakesOp, get_asked, scan_asked}
use Rattle.cap_records.specs.declared.fault.RecordFault.{RecordFault}
use Rattle.cap_records.specs.declared.fault.RecordFault.TheVariants as fault
use Rattle.cap_c.specs.Fault.{placed}
use Rattle.cap_c.specs.Handle.{OpensOn}
use Rattle.cap_c.specs.Refusal.{refused}
use Rattle.cap_c.specs.declared.fault.PlacedFault.{PlacedFault}
use Rattle.cap_c.specs.declared.status.TheConstants.{MALFORMED, MISUSE, NOMEM, OK, REFUSED}

-- ---- Statuses and faults

-- the status of a call that has no answer
abbrev pub record_status : Fault RecordFault → ℕ
record_status stop.OutOfMemory = NOMEM
record_status (stop.Refused fault.Misuse) = MISUSE
record_status (stop.Refused (fault.Malformed wrong)) = MALFORMED
record_status (stop.Refused (fault.Refused why)) = REFUSED

-- the fault that is set then, or what was there before
abbrev pub record_output : Fault RecordFault → PlacedFault → PlacedFault
record_output stop.OutOfMemory old = old
record_output (stop.Refused fault.Misuse) old = old
record_output (stop.Refused (fault.Malformed wrong)) old = placed wrong
record_output (stop.Refused (fault.Refused why)) old = refused None why

module _ {X : Type 0} where
  abbrev pub made_status : Result X (Fault RecordFault) → ℕ
  made_status (Ok x) = OK
  made_status (Err why) = record_status why

  abbrev pub made_fault : Result X (Fault RecordFault) → PlacedFault → PlacedFault
  made_fault (Ok x) old = old
  made_fault (Err why) old = record_output why old

  -- the status and the fault
  pub record TellsRecord (status : ℕ) (old fault : PlacedFault) (answer : Result X (Fault RecordFault))
      : Type 0 where
    pub status_is : status ≡ made_status answer
    pub fault_is : fault ≡ made_fault answer old

  -- What was read opens a closed handle, if there is memory for it. Where nothing was read it stays closed.
  abbrev pub OpensRead : ℕ → Option X → Result X (Fault RecordFault) → Type 0
  OpensRead status has (Ok x) = OpensOn x status has
  OpensRead status has (Err why) = (status ≡ record_status why) × (has ≡ None)

  -- and the fault
  pub record TellsRead (status : ℕ) (has : Option X) (old fault : PlacedFault)
      (answer : Result X (Fault RecordFault)) : Type 0 where
    pub opened : OpensRead status has answer
    pub fault_is : fault ≡ made_fault answer old

-- ---- Reads of a snapshot

-- What the tables have, refusals among them, opens closed rows. That the arguments name none comes first.
pub record ReadsRows {X : Type 0} (rows : Result RowCursorState RecordFault) (names : Result X RecordFault)
    (status : ℕ) (has : Option RowCursorState) (old fault : PlacedFault) : Type 0 where
  pub answer : Result RowCursorState (Fault RecordFault)
  pub answer_is : AnswersUnlessMemory answer rows
  pub first : RefusesFirst (result_err names) answer
  pub tells : TellsRead status has old fault answer

-- ---- Operations

-- the operation with what a number means as its cause, or misuse where it means nothing
abbrev pub caused : Option Cause → (Cause → Result (Op Global) RecordFault) → Result (Op Global) RecordFault
caused (Some cause) made = made cause
caused None made = Err fault.Misuse

-- whether an operation was put, or made
abbrev pub Done : Type 0
Done = Result (Unit {0}) (Fault RecordFault)

-- The operation is the last of the batch. On an error the batch is as it was.
pub record PutsOp (op : Op Global) (old new : BatchState Global) (answer : Done) : Type 0 where
  pub batch : HandsOn (λ call. LeavesUnlessMemory call (push old op) new) answer
  pub kept : OnErr answer (new ≡ old)

-- the same of the arguments' operation; arguments that make none leave the batch as it was
abbrev pub PutsMade : Result (Op Global) (Fault RecordFault) → BatchState Global → BatchState Global → Done →
    Type 0
PutsMade (Ok op) old new answer = PutsOp op old new answer
PutsMade (Err why) old new answer = (answer ≡ Err why) × (new ≡ old)

-- A batch that has all its operations is refused first, whatever the arguments are.
abbrev pub PutsUnlessFull : Option Refusal → Result (Op Global) (Fault RecordFault) → BatchState Global →
    BatchState Global → Done → Type 0
PutsUnlessFull (Some why) made old new answer = (answer ≡ Err (stop.Refused (fault.Refused why))) × (new ≡ old)
PutsUnlessFull None made old new answer = PutsMade made old new answer

-- The operation is the one that the arguments say. That they say none is known without memory.
pub record Puts (said : Result (Op Global) RecordFault) (old new : BatchState Global) (answer : Done)
    : Type 0 where
  pub made : Result (Op Global) (Fault RecordFault)
  pub made_is : AnswersUnlessMemory made said
  pub first : RefusesFirst (result_err said) made
  pub put : PutsUnlessFull (refused_push old.ops) made old new answer

-- The operation is made by the transaction's own call. Arguments that make none leave it as it was.
abbrev pub MakesMade : Result (Op Global) (Fault RecordFault) → TxnState Global → TxnState Global → Done →
    Type 0
MakesMade (Ok op) old new answer = MakesOp op old new answer
MakesMade (Err why) old new answer = (answer ≡ Err why) × (new ≡ old)

pub record Makes (said : Result (Op Global) RecordFault) (old new : TxnState Global) (answer : Done)
    : Type 0 where
  pub made : Result (Op Global) (Fault RecordFault)
  pub made_is : AnswersUnlessMemory made said
  pub first : RefusesFirst (result_err said) made
  pub makes : MakesMade made old new answer

-- ---- Transactions

-- the rows of a transaction as it stands; the call is the last of its trace
pub record Gets (table key : List ℕ) (id : ℕ) (old new : TxnState Global)
    (answer : Result RowCursorState (Fault RecordFault)) : Type 0 where
  pub rows : AnswersUnlessMemory answer (get_in old.workspace.database table key id)
  pub left : LeavesAsked old new (get_asked table key id) answer
  pub first : RefusesFirst (result_err (row_argument table key id)) answer

pub record Scans (table : List ℕ) (old new : TxnState Global)
    (answer : Result RowCursorState (Fault RecordFault)) : Type 0 where
  pub rows : AnswersUnlessMemory answer (scan_in old.workspace.database table)
  pub left : LeavesScanned old new (scan_asked table) answer
  pub first : RefusesFirst (result_err (table_argument table)) answer

-- A savepoint is made, with a mark that the transaction has not given before.
pub record Marks (old new : TxnState Global) (answer : Result Mark (Fault RecordFault)) : Type 0 where
  pub marked : HandsOn (λ call. IsAnswered answered.Mark call asked.Savepoint old new) answer
  pub once : IfOk answer (IsNewMark old)

-- what stood at the savepoint of this number stands again
abbrev pub GoesBack : ℕ → TxnState Global → TxnState Global → Done → Type 0
GoesBack number old new answer = HandsOn
    (λ call. IsAnswered (λ _. answered.Done) call (asked.BackTo (record { number = number })) old new) answer

abbrev pub mark_output : Result Mark (Fault RecordFault) → ℕ → ℕ
mark_output (Ok mark) old = mark.number
mark_output (Err why) old = old

-- and the number of the mark
pub record TellsMark (status old_mark mark : ℕ) (old fault : PlacedFault)
    (answer : Result Mark (Fault RecordFault)) : Type 0 where
  pub told : TellsRecord status old fault answer
  pub mark_is : mark ≡ mark_output answer old_mark

-- A transaction ends in the batch that it leaves, or stays as it was where there is no memory for the batch.
abbrev pub Ends : Option (TxnState Global) → Option (TxnState Global) → Option (BatchState Global) → ℕ → Type 0
Ends (Some txn) after (Some made) status = (status ≡ OK) × (after ≡ None) × (made ≡ batch_of txn)
Ends before after None status = (status ≡ NOMEM) × (after ≡ before)
Ends None after (Some made) status = ⊥
