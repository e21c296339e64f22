-- What a line does where an application is open.
use Rattle.std.proofs.Common.{◌≡◌, ℕ, ◌≤◌, true, false, List, ◌++◌, Option, None, Some, Result, Ok, Err, refl, sym, ap, subst, ◌∙◌}
use Rattle.std.specs.Prelude.{IfErr, IfOk, OnErr, OnOk, is_some}
use Rattle.cap_value.specs.Memory.{AnswersUnlessMemory}
use Rattle.cap_value.specs.declared.memory.Fault.{Fault}
use Rattle.cap_value.specs.declared.memory.Fault.TheVariants as fault
use Rattle.cap_value.specs.declared.refusal.Refusal.{Refusal}
use Rattle.cap_row.specs.Fields.{Fields}
use Rattle.cap_txn.specs.Transaction.{TxnState}
use Rattle.cap_apply.specs.declared.policy.Answer.{Answer}
use Rattle.cap_applier.specs.Applier.{met}
use Rattle.cap_applier.specs.Merge.{refused_merge}
use Rattle.cap_applier.specs.declared.merge.MergeRefusal.{MergeRefusal}
use Rattle.cap_applier.specs.declared.merge.MergeRefusal.TheVariants as merge
use Rattle.cap_applier.specs.declared.row_conflict.RowConflict.{RowConflict}
use Rattle.cap_core.specs.Answer.{State}
use Rattle.cap_core.specs.Outcome.{change_refused}
use Rattle.cap_core.specs.declared.event.Event.{Event}
use Rattle.cap_core.specs.declared.reply.Reply.TheVariants as reply
use Rattle.cap_script.specs.declared.line.Show.{Show}
use Rattle.cap_script.specs.declared.line.Show.TheVariants as show
use Rattle.cap_script.specs.declared.step.Step.TheVariants as step
use Rattle.cap_locked.specs.declared.fault.CallFault.{CallFault}
use Rattle.cap_locked.specs.declared.fault.CallFault.TheVariants.{OutOfMemory, HistoryFull}
use Rattle.cap_replies.specs.Outcomes.{outcome_text}
use Rattle.cap_replies.specs.Printed.{reply_text}
use Rattle.cap_replies.specs.Stops.{stop_text}
use Rattle.cap_replies.specs.declared.outcome.Outcome.TheVariants as outcome
use Rattle.cap_replies.specs.declared.run_line.RunLine.{RunLine}
use Rattle.cap_interpreter.specs.Application.{ApplicationState, answered_from, put_in, transaction_left}
use Rattle.cap_interpreter.specs.Code.Runs.{Did, Ran, holding}
use Rattle.cap_interpreter.specs.Lines.{Course, Deed, command_of, deed, deed_answer, deed_answered, deed_applying, deed_committed, deed_end, deed_put, deed_text, events_max, on_a_line, put_outcome, txn_after}
use Rattle.cap_interpreter.specs.Lines.Deed.{Close, EndApply, NotPut, Stand, Unanswered}
use Rattle.cap_interpreter.specs.declared.held.Open.{Open}
use Rattle.cap_interpreter.specs.declared.held.Open.TheVariants.{Application}
use Rattle.cap_interpreter.proofs.LineLemmas.{did}

pub none_of : {X : Type 0} (found : Option X) → is_some found ≡ false → found ≡ None
none_of None is = refl
none_of (Some x) is = cc

pub refused_is : {X : Type 0} (answer : Result X Refusal) (stop : Fault Refusal) (why : Refusal) → stop ≡ fault.Refused why → AnswersUnlessMemory {X = X} (Err stop) answer → answer ≡ Err why
refused_is {X} answer stop why is held = subst (λ (f : Fault Refusal). AnswersUnlessMemory {X = X} (Err f) answer) is held

module _ {A : Type 0} (line : RunLine A) (app : ApplicationState A) where
  abbrev Here : Option (Open A)
  Here = Some (Application app)

  -- what printing says, where the line leaves this open and has this text
  abbrev Told : Option (Open A) → List ℕ → Result (Option (Open A)) CallFault → List ℕ → List ℕ → Type 0
  Told stays text result before printed =
      IfOk result (λ left. left ≡ stays) × OnOk result (printed ≡ before ++ on_a_line text) × IfErr result (λ fault. fault ≡ OutOfMemory) × OnErr result (printed ≡ before)

  told_did : (does : Deed A) (stays : Option (Open A)) (text : List ℕ) (result : Result (Option (Open A)) CallFault) (before printed : List ℕ) → command_of does ≡ None
      → ((course : Course A) → course.txn ≡ Here → stays ≡ txn_after course does) → ((h : List (Event A)) → text ≡ deed_text line h does) → Told stays text result before printed → Did line does Here result before printed
  told_did does stays text result before printed none opens shows told = did line does Here stays text result before printed none opens shows told.0 told.1 told.2 told.3

  -- ---- answers

  answered_command : (r : Result (ApplicationState A) Refusal) → command_of (deed_answered r) ≡ None
  answered_command (Ok next) = refl
  answered_command (Err why) = refl

  answer_command : (answer : Answer) (found : Option (RowConflict A)) → command_of (deed_answer app answer found) ≡ None
  answer_command answer None = refl
  answer_command answer (Some conflict) = answered_command (answered_from answer app)

  pub answer_kept : (answer : Answer) (result : Result (Option (Open A)) CallFault) (before printed : List ℕ) → is_some (met app.applier) ≡ false → Told Here (outcome_text line outcome.NoConflict) result before printed
      → Did line (deed_answer app answer (met app.applier)) Here result before printed
  answer_kept answer result before printed is told =
      subst (λ (found : Option (RowConflict A)). Did line (deed_answer app answer found) Here result before printed) (sym (none_of (met app.applier) is))
      (told_did (NotPut merge.NoConflict) Here (outcome_text line outcome.NoConflict) result before printed refl (λ course here. sym here) (λ h. refl) told)

  at_conflict : (answer : Answer) (found : Option (RowConflict A)) (result : Result (Option (Open A)) CallFault) (before printed : List ℕ) → is_some found ≡ true → Did line (deed_answered (answered_from answer app)) Here result before printed
      → Did line (deed_answer app answer found) Here result before printed
  at_conflict answer None result before printed is run = cc
  at_conflict answer (Some conflict) result before printed is run = run

  pub answer_led : (answer : Answer) (next : ApplicationState A) (result : Result (Option (Open A)) CallFault) (before printed : List ℕ) → is_some (met app.applier) ≡ true → answered_from answer app ≡ Ok next
      → Told (Some (Application next)) (stop_text line next.applier) result before printed → Did line (deed_answer app answer (met app.applier)) Here result before printed
  answer_led answer next result before printed is made told =
      at_conflict answer (met app.applier) result before printed is
      (subst (λ (r : Result (ApplicationState A) Refusal). Did line (deed_answered r) Here result before printed) (sym made)
      (told_did (Stand next) (Some (Application next)) (stop_text line next.applier) result before printed refl (λ course here. refl) (λ h. refl) told))

  pub answer_refused : (answer : Answer) (why : Refusal) (result : Result (Option (Open A)) CallFault) (before printed : List ℕ) → is_some (met app.applier) ≡ true → answered_from answer app ≡ Err why
      → Told None (reply_text line (reply.Refused (change_refused why) why)) result before printed → Did line (deed_answer app answer (met app.applier)) Here result before printed
  answer_refused answer why result before printed is made told =
      at_conflict answer (met app.applier) result before printed is
      (subst (λ (r : Result (ApplicationState A) Refusal). Did line (deed_answered r) Here result before printed) (sym made)
      (told_did (Close why) None (reply_text line (reply.Refused (change_refused why) why)) result before printed refl (λ course here. refl) (λ h. refl) told))

  pub answer_memory : (answer : Answer) (before : List ℕ) → Did line (deed_answer app answer (met app.applier)) Here (Err OutOfMemory) before before
  answer_memory answer before = (answer_command answer (met app.applier), refl, refl)

  -- ---- rows

  put_command : (row : Fields A) (refused : Option MergeRefusal) → command_of (deed_put app row refused) ≡ None
  put_command row None = refl
  put_command row (Some why) = refl

  pub put_kept : (row : Fields A) (why : MergeRefusal) (result : Result (Option (Open A)) CallFault) (before printed : List ℕ) → Some why ≡ refused_merge app.applier row → Told Here (outcome_text line (put_outcome why)) result before printed
      → Did line (deed_put app row (refused_merge app.applier row)) Here result before printed
  put_kept row why result before printed is told =
      subst (λ (refused : Option MergeRefusal). Did line (deed_put app row refused) Here result before printed) is
      (told_did (NotPut why) Here (outcome_text line (put_outcome why)) result before printed refl (λ course here. sym here) (λ h. refl) told)

  pub put_led : (row : Fields A) (result : Result (Option (Open A)) CallFault) (before printed : List ℕ) → None ≡ refused_merge app.applier row → Did line (Stand (put_in row app)) Here result before printed
      → Did line (deed_put app row (refused_merge app.applier row)) Here result before printed
  put_led row result before printed is run = subst (λ (refused : Option MergeRefusal). Did line (deed_put app row refused) Here result before printed) is run

  pub put_memory : (row : Fields A) (before : List ℕ) → Did line (deed_put app row (refused_merge app.applier row)) Here (Err OutOfMemory) before before
  put_memory row before = (put_command row (refused_merge app.applier row), refl, refl)

  pub put_stands : (next : ApplicationState A) (result : Result (Option (Open A)) CallFault) (before printed : List ℕ) → Told (Some (Application next)) (stop_text line next.applier) result before printed → Did line (Stand next) Here result before printed
  put_stands next result before printed told = told_did (Stand next) (Some (Application next)) (stop_text line next.applier) result before printed refl (λ course here. refl) (λ h. refl) told

  -- ---- the end

  end_deed : line.line.show ≡ show.Step step.End → deed Here line.line ≡ deed_end app (met app.applier)
  end_deed ends = ap (λ (s : Show A). deed_applying app s line.line.command) ends

  waits : (found : Option (RowConflict A)) → is_some found ≡ true → deed_end app found ≡ Unanswered
  waits None is = cc
  waits (Some conflict) is = refl

  -- at a conflict
  pub end_waits : line.line.show ≡ show.Step step.End → is_some (met app.applier) ≡ true → deed Here line.line ≡ Unanswered
  end_waits ends is = end_deed ends ∙ waits (met app.applier) is

  at_end : line.line.show ≡ show.Step step.End → is_some (met app.applier) ≡ false → deed Here line.line ≡ deed_committed app (transaction_left app)
  at_end ends is = end_deed ends ∙ ap (deed_end app) (none_of (met app.applier) is)

  pub end_commits : (txn : TxnState A) → line.line.show ≡ show.Step step.End → is_some (met app.applier) ≡ false → transaction_left app ≡ Ok txn → deed Here line.line ≡ EndApply app txn
  end_commits txn ends is left = at_end ends is ∙ ap (deed_committed app) left

  pub end_closes : (why : Refusal) → line.line.show ≡ show.Step step.End → is_some (met app.applier) ≡ false → transaction_left app ≡ Err why → deed Here line.line ≡ Close why
  end_closes why ends is left = at_end ends is ∙ ap (deed_committed app) left

  commits_something : (left : Result (TxnState A) Refusal) → ((why : Refusal) → left ≡ Err why → ⊥) → is_some (command_of (deed_committed app left)) ≡ true
  commits_something (Ok txn) never = refl
  commits_something (Err why) never = absurd (never why refl)

  -- where the history is full
  pub end_full : (core : State A) (before : List ℕ) → line.line.show ≡ show.Step step.End → is_some (met app.applier) ≡ false → ((why : Refusal) → transaction_left app ≡ Err why → ⊥) → events_max ≤ core.events
      → Ran line (holding core Here) core (Err HistoryFull) before before
  end_full core before ends is never full =
      (refl, refl, (ap (λ (d : Deed A). is_some (command_of d)) (at_end ends is) ∙ commits_something (transaction_left app) never, full))

  -- where memory runs out before, and the history has room
  pub end_memory : (core : State A) (before : List ℕ) → (events_max ≤ core.events → ⊥) → Ran line (holding core Here) core (Err OutOfMemory) before before
  end_memory core before room = (refl, refl, λ full. room full.1)
