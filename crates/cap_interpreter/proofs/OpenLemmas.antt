-- What is open is on a snapshot of a beginning of the history, after any lines.
use Rattle.std.proofs.Common.{◌≡◌, ℕ, List, [], ◌∷◌, ◌++◌, Option, Some, None, Result, Ok, Err, refl, sym, ap, subst, ◌∙◌, append_assoc}
use Rattle.std.specs.Prelude.{IfOk, IfSome, zero, suc}
use Rattle.cap_value.specs.declared.refusal.Refusal.{Refusal}
use Rattle.cap_row.specs.Fields.{Fields}
use Rattle.cap_filter.specs.Rule.{Rule}
use Rattle.cap_codec.specs.declared.read.Contents.{Contents}
use Rattle.cap_database.specs.Operation.{step as op_step}
use Rattle.cap_database.specs.Snapshot.{SnapshotState}
use Rattle.cap_database.specs.Tables.{AreRising, EachRises, Tables}
use Rattle.cap_database.specs.declared.op.Op.{Op}
use Rattle.cap_txn.specs.Batch.{BatchState, WhereRead}
use Rattle.cap_txn.specs.Calls.{after_call, unless_refused}
use Rattle.cap_txn.specs.Stale.{AreOpsOf}
use Rattle.cap_txn.specs.Transaction.{IsTraced, TxnState, batch_of, begin_traced, reads_of, traced}
use Rattle.cap_txn.specs.Workspace.{WorkspaceState, back_at, numbered, op_made, refused_savepoint, savepoint_unless}
use Rattle.cap_txn.specs.declared.answered_call.Asked.{Asked}
use Rattle.cap_txn.specs.declared.answered_call.Asked.TheVariants as asked
use Rattle.cap_txn.specs.declared.savepoint.Savepoint.{Savepoint}
use Rattle.cap_apply.specs.declared.policy.Answer.{Answer}
use Rattle.cap_apply.specs.declared.policy.Answer.TheVariants.{Omit}
use Rattle.cap_applier.specs.Applier.{ApplierState, answered, begun, merged_at, met}
use Rattle.cap_applier.specs.Looked.{KeepsTo}
use Rattle.cap_applier.specs.Merge.{refused_merge}
use Rattle.cap_applier.specs.declared.merge.MergeRefusal.{MergeRefusal}
use Rattle.cap_applier.specs.declared.row_conflict.RowConflict.{RowConflict}
use Rattle.cap_core.specs.Answer.{State, answer, reply_of, snapshot_of, state}
use Rattle.cap_core.specs.Commit.{CommitsIfUnchanged}
use Rattle.cap_core.specs.Table.{BlobsFit}
use Rattle.cap_core.specs.declared.command.Command.{Command}
use Rattle.cap_core.specs.declared.command.Command.TheVariants.{Commit}
use Rattle.cap_core.specs.declared.event.Event.{Event}
use Rattle.cap_core.specs.declared.reply.Reply.{Reply}
use Rattle.cap_script.specs.declared.line.Line.{Line}
use Rattle.cap_script.specs.declared.line.Show.{Show}
use Rattle.cap_script.specs.declared.line.Show.TheVariants as show
use Rattle.cap_script.specs.declared.step.Step.TheVariants as step
use Rattle.cap_replies.specs.declared.run_line.RunLine.{RunLine}
use Rattle.cap_interpreter.specs.Calls.{called_unless, refused_call}
use Rattle.cap_interpreter.specs.Application.{ApplicationState, from_answered, most_steps, one_on, opened, step_from, steps, stop_from, stopped, transaction_left}
use Rattle.cap_interpreter.specs.Lines.{Course, Deed, IsApplying, IsOn, after, after_line, after_lines, begin_course, deed, deed_alone, deed_answer, deed_answered, deed_applying, deed_committed, deed_end, deed_put, deed_within}
use Rattle.cap_interpreter.specs.Lines.Deed.{ApplyEach, Begin, Call, Close, End, EndApply, IsOpen, NotOpen, NotPut, Rollback, Serve, Stand, Unanswered}
use Rattle.cap_interpreter.specs.declared.held.Open.{Open}
use Rattle.cap_interpreter.specs.declared.held.Open.TheVariants.{Application, Transaction}

-- calls keep what a transaction is
abbrev pub IsKept : Type 0 → Type 0
IsKept A = (txn : TxnState A) (call : Asked A) → IsTraced txn → IsTraced (traced txn call)

-- a new one is such
abbrev pub IsNew : Type 0 → Type 0
IsNew A = (snapshot : SnapshotState A) → IsTraced (begin_traced snapshot)

-- an application that has begun changes none but the rows that it looks at, nor does a step of one, nor a row that is put
abbrev pub IsFirst : Type 0 → Type 0
IsFirst A = (tables : Tables A) (blob : Contents A) (filter : Option Rule) → KeepsTo tables (begun tables blob filter)

abbrev pub IsStep : Type 0 → Type 0
IsStep A = (base : Tables A) (answer : Answer) (s : ApplierState A) → KeepsTo base s → IfOk (answered answer s) (KeepsTo base)

abbrev pub IsMerged : Type 0 → Type 0
IsMerged A = (base : Tables A) (s : ApplierState A) (row : Fields A) → KeepsTo base s → KeepsTo base (merged_at (met s) row s)

-- what the laws of transactions and of applications say
record Laws (A : Type 0) : Type 0 where
  kept : IsKept A
  new : IsNew A
  first : IsFirst A
  step : IsStep A
  merged : IsMerged A

module _ {A : Type 0} where
  -- ---- a call leaves the snapshot that the transaction is on

  op_base : (txn : WorkspaceState A) (op : Op A) (made : Result (Tables A) Refusal) → (unless_refused txn (op_made txn op made)).base ≡ txn.base
  op_base txn op (Ok tables) = refl
  op_base txn op (Err why) = refl

  savepoint_base : (txn : WorkspaceState A) (refused : Option Refusal) → (unless_refused txn (savepoint_unless refused txn)).base ≡ txn.base
  savepoint_base txn (Some why) = refl
  savepoint_base txn None = refl

  back_base : (txn : WorkspaceState A) (number : ℕ) (found : Option (Savepoint A)) → (unless_refused txn (back_at txn number found)).base ≡ txn.base
  back_base txn number None = refl
  back_base txn number (Some s) = refl

  pub call_base : (txn : WorkspaceState A) (call : Asked A) → (after_call txn call).base ≡ txn.base
  call_base txn (asked.Op op) = op_base txn op (op_step txn.database op)
  call_base txn (asked.Get table row) = refl
  call_base txn (asked.Scan table) = refl
  call_base txn asked.Savepoint = savepoint_base txn (refused_savepoint txn)
  call_base txn (asked.BackTo mark) = back_base txn mark.number (numbered mark.number txn.savepoints)

  -- ---- what a line leaves

  called_on : IsKept A → (h : List (Event A)) (txn : TxnState A) (call : Asked A) (refused : Option Refusal) → IsOn h txn → IsOn h (called_unless refused txn call)
  called_on kept h txn call None on = record {
    front = on.front;
    rest = on.rest;
    parts = on.parts;
    base = call_base txn.workspace call ∙ on.base;
    traced = kept txn call on.traced;
  }
  called_on kept h txn call (Some why) on = on

  -- what is open, by what it is
  abbrev IsHeld : List (Event A) → Open A → Type 0
  IsHeld h (Transaction txn) = IsOn h txn
  IsHeld h (Application app) = IsApplying h app

  longer : (h : List (Event A)) (event : Event A) (held : Option (Open A)) → IfSome held (IsHeld h) → IfSome held (IsHeld (h ++ event ∷ []))
  longer h event None on = tt
  longer h event (Some (Transaction txn)) on = record {
    front = on.front;
    rest = on.rest ++ event ∷ [];
    parts = ap (λ (l : List (Event A)). l ++ event ∷ []) on.parts ∙ append_assoc on.front on.rest (event ∷ []);
    base = on.base;
    traced = on.traced;
  }
  longer h event (Some (Application app)) on = record {
    front = on.front;
    rest = on.rest ++ event ∷ [];
    parts = ap (λ (l : List (Event A)). l ++ event ∷ []) on.parts ∙ append_assoc on.front on.rest (event ∷ []);
    base = on.base;
    keeps = on.keeps;
  }

  -- ---- an application changes none but the rows that it looks at

  one_keeps : (base : Tables A) (s : ApplierState A) (r : Result (ApplierState A) Refusal) → KeepsTo base s → IfOk r (KeepsTo base) → KeepsTo base (one_on r s)
  one_keeps base s (Ok next) keeps more = more
  one_keeps base s (Err why) keeps more = keeps

  step_keeps : IsStep A → (base : Tables A) (s : ApplierState A) (found : Option (RowConflict A)) → KeepsTo base s → KeepsTo base (step_from found s)
  step_keeps law base s (Some conflict) keeps = keeps
  step_keeps law base s None keeps = one_keeps base s (answered Omit s) keeps (law base Omit s keeps)

  steps_keep : IsStep A → (base : Tables A) (n : ℕ) (s : ApplierState A) → KeepsTo base s → KeepsTo base (steps n s)
  steps_keep law base zero s keeps = keeps
  steps_keep law base (suc n) s keeps = step_keeps law base (steps n s) (met (steps n s)) (steps_keep law base n s keeps)

  stop_keeps : IsStep A → (base : Tables A) (s : ApplierState A) → KeepsTo base s → KeepsTo base (stop_from s)
  unfolding stop_from
  stop_keeps law base s keeps = steps_keep law base (most_steps s.blob) s keeps

  -- ---- where a line leads the open one

  -- an application is led on: it stays on its snapshot, and changes none but its rows
  abbrev Leads : Option (Open A) → ApplicationState A → Type 0
  Leads held app = (old : ApplicationState A) × (held ≡ Some (Application old)) × (app.base ≡ old.base)
      × (KeepsTo old.base.database old.applier → KeepsTo app.base.database app.applier)

  -- the transaction of a call is the open one, and an application is led on from the open one
  abbrev IsOf : Option (Open A) → Deed A → Type 0
  IsOf held (Call txn call) = held ≡ Some (Transaction txn)
  IsOf held (Stand app) = Leads held app
  IsOf held _ = Unit {0}

  of_alone : (how : Show A) (command : Command A) → IsOf None (deed_alone how command)
  of_alone show.Plain command = tt
  of_alone (show.Get table row) command = tt
  of_alone (show.Scan table) command = tt
  of_alone (show.Step step.Begin) command = tt
  of_alone (show.Step (step.Call call)) command = tt
  of_alone (show.Step step.Rollback) command = tt
  of_alone (show.Step step.End) command = tt
  of_alone (show.Step (step.ApplyEach blob filter)) command = tt
  of_alone (show.Step (step.Answer answer)) command = tt
  of_alone (show.Step (step.Put row)) command = tt
  of_alone (show.Changeset flags) command = tt
  of_alone (show.Patchset flags) command = tt
  of_alone show.Report command = tt
  of_alone show.Buffer command = tt
  of_alone (show.Accepted detail numbers) command = tt
  of_alone (show.Decided report passed) command = tt

  of_within : (txn : TxnState A) (how : Show A) (command : Command A) → IsOf (Some (Transaction txn)) (deed_within txn how command)
  of_within txn show.Plain command = tt
  of_within txn (show.Get table row) command = refl
  of_within txn (show.Scan table) command = refl
  of_within txn (show.Step step.Begin) command = tt
  of_within txn (show.Step (step.Call call)) command = refl
  of_within txn (show.Step step.Rollback) command = tt
  of_within txn (show.Step step.End) command = tt
  of_within txn (show.Step (step.ApplyEach blob filter)) command = tt
  of_within txn (show.Step (step.Answer answer)) command = tt
  of_within txn (show.Step (step.Put row)) command = tt
  of_within txn (show.Changeset flags) command = tt
  of_within txn (show.Patchset flags) command = tt
  of_within txn show.Report command = tt
  of_within txn show.Buffer command = tt
  of_within txn (show.Accepted detail numbers) command = tt
  of_within txn (show.Decided report passed) command = tt

  module _ (law : IsStep A) (merge : IsMerged A) (app : ApplicationState A) where
    of_answered : (r : Result (ApplierState A) Refusal) → (KeepsTo app.base.database app.applier → IfOk r (KeepsTo app.base.database)) → IsOf (Some (Application app)) (deed_answered (from_answered app (stopped r)))
    of_answered (Ok s) keeps = (app, refl, refl, λ kept. stop_keeps law app.base.database s (keeps kept))
    of_answered (Err why) keeps = tt

    of_answer : (answer : Answer) (found : Option (RowConflict A)) → IsOf (Some (Application app)) (deed_answer app answer found)
    of_answer answer None = tt
    of_answer answer (Some conflict) = of_answered (answered answer app.applier) (law app.base.database answer app.applier)

    of_put : (row : Fields A) (refused : Option MergeRefusal) → IsOf (Some (Application app)) (deed_put app row refused)
    of_put row None = (app, refl, refl, λ kept. stop_keeps law app.base.database (merged_at (met app.applier) row app.applier) (merge app.base.database app.applier row kept))
    of_put row (Some why) = tt

    of_committed : (left : Result (TxnState A) Refusal) → IsOf (Some (Application app)) (deed_committed app left)
    of_committed (Ok txn) = tt
    of_committed (Err why) = tt

    of_end : (found : Option (RowConflict A)) → IsOf (Some (Application app)) (deed_end app found)
    of_end None = of_committed (transaction_left app)
    of_end (Some conflict) = tt

    of_applying : (how : Show A) (command : Command A) → IsOf (Some (Application app)) (deed_applying app how command)
    of_applying show.Plain command = tt
    of_applying (show.Get table row) command = tt
    of_applying (show.Scan table) command = tt
    of_applying (show.Step step.Begin) command = tt
    of_applying (show.Step (step.Call call)) command = tt
    of_applying (show.Step step.Rollback) command = tt
    of_applying (show.Step step.End) command = of_end (met app.applier)
    of_applying (show.Step (step.ApplyEach blob filter)) command = tt
    of_applying (show.Step (step.Answer answer)) command = of_answer answer (met app.applier)
    of_applying (show.Step (step.Put row)) command = of_put row (refused_merge app.applier row)
    of_applying (show.Changeset flags) command = tt
    of_applying (show.Patchset flags) command = tt
    of_applying show.Report command = tt
    of_applying show.Buffer command = tt
    of_applying (show.Accepted detail numbers) command = tt
    of_applying (show.Decided report passed) command = tt

  abbrev IsOpened : Course A → Type 0
  IsOpened course = IfSome course.txn (IsHeld course.history)

  deed_of : Laws A → (held : Option (Open A)) (line : Line A) → IsOf held (deed held line)
  deed_of laws None line = of_alone line.show line.command
  deed_of laws (Some (Transaction txn)) line = of_within txn line.show line.command
  deed_of laws (Some (Application app)) line = of_applying laws.step laws.merged app line.show line.command

  opened_after : Laws A → (course : Course A) (does : Deed A) → IsOf course.txn does → IsOpened course → IsOpened (after course does)
  opened_after laws course (Serve command) of opened = longer course.history _ course.txn opened
  opened_after laws course Begin of opened = record {
    front = course.history;
    rest = _;
    parts = refl;
    base = refl;
    traced = laws.new (snapshot_of (state course.history));
  }
  opened_after laws course (Call txn call) of opened =
      called_on laws.kept course.history txn call (refused_call txn call) (subst (λ (t : Option (Open A)). IfSome t (IsHeld course.history)) of opened)
  opened_after laws course Rollback of opened = tt
  opened_after laws course (End txn) of opened = tt
  opened_after laws course NotOpen of opened = opened
  opened_after laws course IsOpen of opened = opened
  opened_after laws course (ApplyEach blob filter) of opened = record {
    front = course.history;
    rest = _;
    parts = refl;
    base = refl;
    keeps =
        let base = snapshot_of (state course.history) in
        stop_keeps laws.step base.database (begun base.database blob filter) (laws.first base.database blob filter);
  }
  opened_after laws course (Stand app) (old, held, base, leads) opened =
      let on = subst (λ (t : Option (Open A)). IfSome t (IsHeld course.history)) held opened in
      record {
        front = on.front;
        rest = on.rest;
        parts = on.parts;
        base = base ∙ on.base;
        keeps = leads on.keeps;
      }
  opened_after laws course (Close why) of opened = tt
  opened_after laws course (NotPut why) of opened = opened
  opened_after laws course Unanswered of opened = opened
  opened_after laws course (EndApply app txn) of opened = tt

  opened_lines : Laws A → (course : Course A) (lines : List (RunLine A)) → IsOpened course → IsOpened (after_lines course lines)
  opened_lines laws course [] opened = opened
  opened_lines laws course (line ∷ lines) opened =
      opened_lines laws (after_line course line) lines (opened_after laws course (deed course.txn line.line) (deed_of laws course.txn line.line) opened)

  -- ---- the laws

  -- what is open after any lines
  open_is : Laws A → (lines : List (RunLine A)) (thing : Open A) → (after_lines begin_course lines).txn ≡ Some thing → IsHeld (after_lines begin_course lines).history thing
  open_is laws lines thing is =
      subst (λ (t : Option (Open A)). IfSome t (IsHeld (after_lines begin_course lines).history)) is (opened_lines laws begin_course lines tt)

  pub open_on : IsKept A → IsNew A → IsFirst A → IsStep A → IsMerged A → (lines : List (RunLine A)) (txn : TxnState A) → (after_lines begin_course lines).txn ≡ Some (Transaction txn)
      → IsOn (after_lines begin_course lines).history txn
  open_on kept new first step merged lines txn is = open_is (record { kept = kept; new = new; first = first; step = step; merged = merged }) lines (Transaction txn) is

  pub applying_on : IsKept A → IsNew A → IsFirst A → IsStep A → IsMerged A → (lines : List (RunLine A)) (app : ApplicationState A) → (after_lines begin_course lines).txn ≡ Some (Application app)
      → IsApplying (after_lines begin_course lines).history app
  applying_on kept new first step merged lines app is = open_is (record { kept = kept; new = new; first = first; step = step; merged = merged }) lines (Application app) is

  pub commits : (h : List (Event A)) (txn : TxnState A) → IsOn h txn → BlobsFit h
      → ((h : List (Event A)) → BlobsFit h → AreRising (state h).main)
      → ((h more : List (Event A)) → BlobsFit (h ++ more) → BlobsFit h)
      → ((txn : TxnState A) → IsTraced txn → EachRises txn.workspace.base.database → AreOpsOf txn.workspace.ops txn.workspace.base.version (reads_of txn))
      → ((now : State A) (batch : BatchState A) → EachRises now.main → WhereRead batch.base batch.reads (AreOpsOf batch.ops)
      → WhereRead batch.base batch.reads (CommitsIfUnchanged (snapshot_of now) (answer now (Commit batch))))
      → reply_of h (Commit (batch_of txn)) ≡ answer (state h) (Commit (batch_of txn))
      → CommitsIfUnchanged (snapshot_of (state h)) (reply_of h (Commit (batch_of txn))) txn.workspace.base.version (reads_of txn)
  commits h txn on fits rising begins stands judged reply =
      let front = begins on.front on.rest (subst BlobsFit on.parts fits) in
      let base = subst (λ (s : SnapshotState A). EachRises s.database) (sym on.base) (rising on.front front).each in
      let judge = judged (state h) (batch_of txn) (rising h fits).each (stands txn on.traced base) in
      subst (λ (r : Reply A). CommitsIfUnchanged (snapshot_of (state h)) r txn.workspace.base.version (reads_of txn)) (sym reply) judge
