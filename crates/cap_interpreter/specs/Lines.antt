-- What lines do, one after the other, to the sequential server and to the transaction or application that is open.
use Rattle.std.specs.Prelude.{◌≡◌, ℕ, ◌^◌, ◌-◌, ◌≤◌, Bool, true, false, Option, Some, None, IsSome, List, []}
use Rattle.std.specs.Prelude.{◌∷◌, ◌++◌, length, Result, Ok, Err}
use Rattle.cap_value.specs.declared.refusal.Refusal.{Refusal}
use Rattle.cap_value.specs.declared.refusal.Refusal.TheVariants.{WrongWidth as Wide}
use Rattle.cap_row.specs.Fields.{Fields}
use Rattle.cap_filter.specs.Rule.{Rule}
use Rattle.cap_codec.specs.declared.read.Contents.{Contents}
use Rattle.cap_txn.specs.Batch.{BatchState}
use Rattle.cap_txn.specs.Transaction.{IsTraced, TxnState, batch_of, begin_traced}
use Rattle.cap_txn.specs.declared.answered_call.Answer.TheVariants as told
use Rattle.cap_txn.specs.declared.answered_call.Asked.{Asked}
use Rattle.cap_txn.specs.declared.answered_call.Asked.TheVariants as asked
use Rattle.cap_apply.specs.declared.policy.Answer.{Answer as ConflictAnswer}
use Rattle.cap_applier.specs.Applier.{met}
use Rattle.cap_applier.specs.Looked.{KeepsTo}
use Rattle.cap_applier.specs.Merge.{refused_merge}
use Rattle.cap_applier.specs.declared.merge.MergeRefusal.{MergeRefusal}
use Rattle.cap_applier.specs.declared.merge.MergeRefusal.TheVariants as merge
use Rattle.cap_applier.specs.declared.row_conflict.RowConflict.{RowConflict}
use Rattle.cap_core.specs.Answer.{IsLegal, event_by, reply_of, snapshot_of, state}
use Rattle.cap_core.specs.Outcome.{change_refused}
use Rattle.cap_core.specs.Table.{BlobsFit}
use Rattle.cap_core.specs.declared.command.Command.{Command}
use Rattle.cap_core.specs.declared.command.Command.TheVariants.{Commit, Read}
use Rattle.cap_core.specs.declared.event.Event.{Event}
use Rattle.cap_core.specs.declared.reply.Reply.TheVariants as reply
use Rattle.cap_script.specs.declared.line.Line.{Line}
use Rattle.cap_script.specs.declared.line.Show.{Show}
use Rattle.cap_script.specs.declared.line.Show.TheVariants.{Decided, Get, Scan, Step}
use Rattle.cap_script.specs.declared.step.Step.TheVariants as step
use Rattle.cap_replies.specs.Outcomes.{outcome_text}
use Rattle.cap_replies.specs.Printed.{reply_text}
use Rattle.cap_replies.specs.Stops.{stop_text}
use Rattle.cap_replies.specs.declared.outcome.Outcome.{Outcome}
use Rattle.cap_replies.specs.declared.outcome.Outcome.TheVariants as outcome
use Rattle.cap_replies.specs.declared.outcome.Outcome.TheVariants.{Answer, Begun, InTransaction, NoTransaction}
use Rattle.cap_replies.specs.declared.outcome.Outcome.TheVariants.{RolledBack}
use Rattle.cap_replies.specs.declared.run_line.RunLine.{RunLine}
use Rattle.cap_interpreter.specs.Application.{ApplicationState, answered_from, opened, passed_in, put_in}
use Rattle.cap_interpreter.specs.Application.{transaction_left}
use Rattle.cap_interpreter.specs.Calls.{answer_in, called}
use Rattle.cap_interpreter.specs.Interpreter.{InterpreterState}
use Rattle.cap_interpreter.specs.declared.held.Open.{Open}
use Rattle.cap_interpreter.specs.declared.held.Open.TheVariants.{Application, Transaction}

-- the most events of a history
abbrev pub events_max : ℕ
events_max = 2 ^ 63 - 1

-- a text, on a line of its own
abbrev pub on_a_line : List ℕ → List ℕ
on_a_line text = text ++ 10 ∷ []

-- where lines have led: the history of the server, and the transaction or the application that is open
pub record Course (A : Type 0) : Type 0 where
  pub history : List (Event A)
  pub txn : Option (Open A)

-- what a line does
pub data Deed (A : Type 0) : Type 0 where
  -- carries out a command of the server
  Serve : (command : Command A) → Deed A
  -- begins a transaction on a snapshot
  Begin : Deed A
  -- makes a call of the open transaction
  Call : (txn : TxnState A) (call : Asked A) → Deed A
  -- undoes what is open
  Rollback : Deed A
  -- commits the open transaction
  End : (txn : TxnState A) → Deed A
  -- is refused, since no transaction is open
  NotOpen : Deed A
  -- is refused, since a transaction or an application is open
  IsOpen : Deed A
  -- opens an application of a blob, to the tables that a filter accepts, on a snapshot
  ApplyEach : (blob : Contents A) (filter : Option Rule) → Deed A
  -- leads the open application on to here
  Stand : (app : ApplicationState A) → Deed A
  -- ends it by a refusal, and nothing is changed
  Close : (why : Refusal) → Deed A
  -- is refused, since this may not stand in place of a change, or there is none
  NotPut : (why : MergeRefusal) → Deed A
  -- is refused, since a conflict is not answered
  Unanswered : Deed A
  -- commits the application, by this transaction
  EndApply : (app : ApplicationState A) (txn : TxnState A) → Deed A

module _ {A : Type 0} where
  -- ---- one line

  -- whether it is a step of a transaction or of an application over several lines
  abbrev pub is_step : Show A → Bool
  is_step (Step _) = true
  is_step _ = false

  -- where nothing is open
  abbrev pub deed_alone : Show A → Command A → Deed A
  deed_alone (Step step.Begin) command = Begin
  deed_alone (Step (step.ApplyEach blob filter)) command = ApplyEach blob filter
  deed_alone (Step (step.Answer answer)) command = NotPut merge.NoConflict
  deed_alone (Step (step.Put row)) command = NotPut merge.NoConflict
  deed_alone (Step _) command = NotOpen
  deed_alone _ command = Serve command

  -- where this transaction is
  abbrev pub deed_within : TxnState A → Show A → Command A → Deed A
  deed_within txn (Get table row) command = Call txn (asked.Get table row)
  deed_within txn (Scan table) command = Call txn (asked.Scan table)
  deed_within txn (Step step.Begin) command = IsOpen
  deed_within txn (Step (step.ApplyEach blob filter)) command = IsOpen
  deed_within txn (Step (step.Call call)) command = Call txn call
  deed_within txn (Step step.Rollback) command = Rollback
  deed_within txn (Step step.End) command = End txn
  deed_within txn (Step (step.Answer answer)) command = NotPut merge.NoConflict
  deed_within txn (Step (step.Put row)) command = NotPut merge.NoConflict
  deed_within txn _ command = Serve command

  -- an answer leads on to the next conflict, or is refused
  abbrev pub deed_answered : Result (ApplicationState A) Refusal → Deed A
  deed_answered (Ok app) = Stand app
  deed_answered (Err why) = Close why

  abbrev pub deed_answer : ApplicationState A → ConflictAnswer → Option (RowConflict A) → Deed A
  deed_answer app answer (Some conflict) = deed_answered (answered_from answer app)
  deed_answer app answer None = NotPut merge.NoConflict

  -- a row is put in place of the change, or may not be
  abbrev pub deed_put : ApplicationState A → Fields A → Option MergeRefusal → Deed A
  deed_put app row None = Stand (put_in row app)
  deed_put app row (Some why) = NotPut why

  abbrev pub deed_committed : ApplicationState A → Result (TxnState A) Refusal → Deed A
  deed_committed app (Ok txn) = EndApply app txn
  deed_committed app (Err why) = Close why

  -- an application ends where no conflict is left to be answered
  abbrev pub deed_end : ApplicationState A → Option (RowConflict A) → Deed A
  deed_end app None = deed_committed app (transaction_left app)
  deed_end app (Some conflict) = Unanswered

  -- where this application is
  abbrev pub deed_applying : ApplicationState A → Show A → Command A → Deed A
  deed_applying app (Step step.Begin) command = IsOpen
  deed_applying app (Step (step.ApplyEach blob filter)) command = IsOpen
  deed_applying app (Step (step.Call call)) command = NotOpen
  deed_applying app (Step step.Rollback) command = Rollback
  deed_applying app (Step step.End) command = deed_end app (met app.applier)
  deed_applying app (Step (step.Answer answer)) command = deed_answer app answer (met app.applier)
  deed_applying app (Step (step.Put row)) command = deed_put app row (refused_merge app.applier row)
  deed_applying app _ command = Serve command

  abbrev pub deed : Option (Open A) → Line A → Deed A
  deed None line = deed_alone line.show line.command
  deed (Some (Transaction txn)) line = deed_within txn line.show line.command
  deed (Some (Application app)) line = deed_applying app line.show line.command

  -- the command of the server that it carries out, if it does: a snapshot is that of a `Read`
  abbrev pub command_of : Deed A → Option (Command A)
  command_of (Serve command) = Some command
  command_of Begin = Some Read
  command_of (End txn) = Some (Commit (batch_of txn))
  command_of (ApplyEach blob filter) = Some Read
  command_of (EndApply app txn) = Some (Commit (batch_of txn))
  command_of _ = None

  -- the history with the event of a command, if there is one
  abbrev pub history_with : List (Event A) → Option (Command A) → List (Event A)
  history_with history None = history
  history_with history (Some command) = history ++ event_by 0 command (reply_of history command) ∷ []

  -- what is open after it
  abbrev pub txn_after : Course A → Deed A → Option (Open A)
  txn_after course Begin = Some (Transaction (begin_traced (snapshot_of (state course.history))))
  txn_after course (Call txn call) = Some (Transaction (called txn call))
  txn_after course Rollback = None
  txn_after course (End txn) = None
  txn_after course (ApplyEach blob filter) =
      Some (Application (opened (snapshot_of (state course.history)) blob filter))
  txn_after course (Stand app) = Some (Application app)
  txn_after course (Close why) = None
  txn_after course (EndApply app txn) = None
  txn_after course _ = course.txn

  abbrev pub after : Course A → Deed A → Course A
  after course deed = record {
    history = history_with course.history (command_of deed);
    txn = txn_after course deed;
  }

  -- ---- lines one after the other

  -- no line yet
  abbrev pub begin_course : Course A
  begin_course = record { history = []; txn = None }

  -- after a line
  abbrev pub after_line : Course A → RunLine A → Course A
  after_line course line = after course (deed course.txn line.line)

  abbrev pub after_lines : Course A → List (RunLine A) → Course A
  after_lines course [] = course
  after_lines course (line ∷ lines) = after_lines (after_line course line) lines

  -- ---- what is printed

  -- what a row that may not be put is told as
  abbrev pub put_outcome : MergeRefusal → Outcome A
  put_outcome merge.NoConflict = outcome.NoConflict
  put_outcome merge.WrongWidth = Answer (told.Refused Wide)
  put_outcome merge.OtherKey = outcome.OtherKey

  -- a line that ends the application is printed with its report
  abbrev pub ended_line : RunLine A → ApplicationState A → BatchState A → RunLine A
  ended_line line app batch = record line {
    line = record {
      worker = line.line.worker;
      command = Commit batch;
      show = Decided app.applier.progress.applied.report (passed_in app.applier);
    };
  }

  abbrev pub deed_text : RunLine A → List (Event A) → Deed A → List ℕ
  deed_text line history (Serve command) = reply_text line (reply_of history command)
  deed_text line history Begin = outcome_text line Begun
  deed_text line history (Call txn call) = outcome_text line (Answer (answer_in txn call))
  deed_text line history Rollback = outcome_text line RolledBack
  deed_text line history (End txn) = reply_text line (reply_of history (Commit (batch_of txn)))
  deed_text line history NotOpen = outcome_text line NoTransaction
  deed_text line history IsOpen = outcome_text line InTransaction
  deed_text line history (ApplyEach blob filter) =
      stop_text line (opened (snapshot_of (state history)) blob filter).applier
  deed_text line history (Stand app) = stop_text line app.applier
  deed_text line history (Close why) = reply_text line (reply.Refused (change_refused why) why)
  deed_text line history (NotPut why) = outcome_text line (put_outcome why)
  deed_text line history Unanswered = outcome_text line outcome.Unanswered
  deed_text line history (EndApply app txn) =
      reply_text (ended_line line app (batch_of txn)) (reply_of history (Commit (batch_of txn)))

  -- the text of the reply to a line, without its line feed
  abbrev pub text_of : Course A → RunLine A → List ℕ
  text_of course line = deed_text line course.history (deed course.txn line.line)

  -- ---- what holds of them

  -- the transaction is on a snapshot of a beginning of the history, and is what its calls make of it
  pub record IsOn (history : List (Event A)) (txn : TxnState A) : Type 0 where
    pub front : List (Event A)
    pub rest : List (Event A)
    pub parts : history ≡ front ++ rest
    pub base : txn.workspace.base ≡ snapshot_of (state front)
    pub traced : IsTraced txn

  -- the application is on a snapshot of a beginning of the history, and changes none but the rows that it looks
  -- at
  pub record IsApplying (history : List (Event A)) (app : ApplicationState A) : Type 0 where
    pub front : List (Event A)
    pub rest : List (Event A)
    pub parts : history ≡ front ++ rest
    pub base : app.base ≡ snapshot_of (state front)
    pub keeps : KeepsTo app.base.database app.applier

  -- ---- an interpreter

  -- the lines have led the interpreter there, over a legal history, whose blobs fit
  pub record IsAt (course : Course A) (interpreter : InterpreterState A) : Type 0 where
    pub legal : IsLegal course.history
    pub blobs : BlobsFit course.history
    pub few : length course.history ≤ events_max
    pub core : interpreter.core ≡ state course.history
    pub txn : interpreter.txn ≡ course.txn

  -- the line carries out a command of the server, and the history is full
  abbrev pub IsFull : InterpreterState A → RunLine A → Type 0
  IsFull interpreter line =
      IsSome (command_of (deed interpreter.txn line.line)) × (events_max ≤ interpreter.core.events)
