-- A transaction: what stands of it, what it looked at, and its calls with their answers.
use Rattle.std.specs.Prelude.{◌≡◌, ℕ, ◌<◌, ⊤, Option, Some, None, Result, Ok, Err, List, [], ◌∷◌, ◌++◌, map}
use Rattle.std.specs.List.{AllByRecursion}
use Rattle.cap_value.specs.Memory.{AnswersUnlessMemory}
use Rattle.cap_value.specs.declared.memory.Fault.{Fault}
use Rattle.cap_value.specs.declared.memory.Fault.TheVariants as fault
use Rattle.cap_value.specs.declared.refusal.Refusal.{Refusal}
use Rattle.cap_database.specs.Snapshot.{SnapshotState}
use Rattle.cap_database.specs.Tables.{Tables}
use Rattle.cap_txn.specs.Batch.{BatchState}
use Rattle.cap_txn.specs.Calls.{after_call, answer_to, footprint, items_of, left, whole}
use Rattle.cap_txn.specs.Footprint.{with_items}
use Rattle.cap_txn.specs.ReadSet.{ReadSetState}
use Rattle.cap_txn.specs.Sound.{Leaves}
use Rattle.cap_txn.specs.Workspace.{WorkspaceState, begin}
use Rattle.cap_txn.specs.declared.item.Item.{Item}
use Rattle.cap_txn.specs.declared.answered_call.Answer.{Answer}
use Rattle.cap_txn.specs.declared.answered_call.Answer.TheVariants as answer
use Rattle.cap_txn.specs.declared.answered_call.Asked.{Asked}
use Rattle.cap_txn.specs.declared.answered_call.AnsweredCall.{AnsweredCall}
use Rattle.cap_txn.specs.declared.savepoint.Mark.{Mark}

-- what stands, what was looked at, each item once, and the calls with their answers
pub record TxnState (A : Type 0) : Type 0 where
  pub workspace : WorkspaceState A
  pub footprint : List (Item A)
  pub trace : List (AnsweredCall A)

-- an answer, refusals among them, of a call that may run out of memory
abbrev pub handed_on : {X : Type 0} → Result X Refusal → Result X (Fault Refusal)
handed_on (Ok x) = Ok x
handed_on (Err why) = Err (fault.Refused why)

module _ {A : Type 0} where
  -- nothing was called yet
  abbrev pub begin_traced : SnapshotState A → TxnState A
  begin_traced snapshot = record { workspace = begin snapshot; footprint = []; trace = [] }

  -- after a call that was answered, refused ones among them
  abbrev pub traced : TxnState A → Asked A → TxnState A
  traced txn call = record {
    workspace = after_call txn.workspace call;
    footprint = with_items txn.footprint (items_of txn.workspace call);
    trace = txn.trace ++ record { call = call; answer = answer_to txn.workspace call } ∷ [];
  }

  -- The call was answered so, also where it is refused, and is the last of the trace. When out of memory, all
  -- is as before.
  abbrev pub IsAnswered : {X : Type 0} → (X → Answer A) → Result X (Fault Refusal) → Asked A → TxnState A
      → TxnState A → Type 0
  IsAnswered form (Ok x) call old new = (form x ≡ answer_to old.workspace call) × (new ≡ traced old call)
  IsAnswered form (Err (fault.Refused why)) call old new =
      (answer.Refused why ≡ answer_to old.workspace call) × (new ≡ traced old call)
  IsAnswered form (Err fault.OutOfMemory) call old new = new ≡ old

  -- The same of a call that may be refused beforehand, which then leaves all as before and is not of the trace.
  abbrev pub IsAnsweredUnless : {X : Type 0} → Option Refusal → (X → Answer A) → Result X (Fault Refusal)
      → Asked A → TxnState A → TxnState A → Type 0
  IsAnsweredUnless None form result call old new = IsAnswered form result call old new
  IsAnsweredUnless (Some why) form result call old new = (result ≡ Err (fault.Refused why)) × (new ≡ old)

  abbrev pub calls_of : List (AnsweredCall A) → List (Asked A)
  calls_of trace = map (λ entry. entry.call) trace

  abbrev pub answers_of : List (AnsweredCall A) → List (Answer A)
  answers_of trace = map (λ entry. entry.answer) trace

  -- a transaction is what its trace's calls make of its base, and the answers there are theirs
  pub record IsTraced (txn : TxnState A) : Type 0 where
    pub workspace : txn.workspace ≡ left (calls_of txn.trace) txn.workspace.base
    pub answers : answers_of txn.trace ≡ whole (calls_of txn.trace) txn.workspace.base
    pub items : txn.footprint ≡ footprint (calls_of txn.trace) txn.workspace.base

  -- a read answers from the base followed by the operations that stand
  abbrev pub ReadsOwnWrites : {X : Type 0} → TxnState A → (Tables A → Result X Refusal)
      → Result X (Fault Refusal) → Type 0
  ReadsOwnWrites txn reading result =
      (tables : Tables A) → Leaves txn.workspace.base.database txn.workspace.ops tables
      → AnswersUnlessMemory result (reading tables)

  -- a mark that was answered has a lower number
  abbrev pub IsLower : ℕ → Answer A → Type 0
  IsLower number (answer.Mark mark) = mark.number < number
  IsLower number _ = ⊤

  -- no call was answered this mark, or a later one, before
  abbrev pub IsNewMark : TxnState A → Mark → Type 0
  IsNewMark txn mark = AllByRecursion (λ entry. IsLower mark.number entry.answer) txn.trace

  abbrev pub reads_of : TxnState A → ReadSetState A
  reads_of txn =
      record { database = txn.workspace.base.database; footprint = txn.footprint; trace = txn.trace }

  -- what a transaction leaves to be committed
  abbrev pub batch_of : TxnState A → BatchState A
  batch_of txn =
      record { base = Some txn.workspace.base.version; ops = txn.workspace.ops; reads = Some (reads_of txn) }
