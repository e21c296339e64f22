use Rattle.std.proofs.Common.{◌≡◌, ◌∙◌, ◌≤◌, None, Some, refl, rules, sym}
use Rattle.std.specs.Prelude.{string_bytes}
use Rattle.cap_core.specs.Outcome.{change_refused}
use Rattle.cap_core.specs.declared.reply.Reply.TheVariants as reply
use Rattle.cap_replies.specs.Outcomes.{outcome_text}
use Rattle.cap_replies.specs.Printed.{reply_text}
use Rattle.cap_replies.specs.declared.outcome.Outcome.TheVariants as outcome
use Rattle.cap_interpreter.specs.Code.Runs.{holding}
use Rattle.cap_interpreter.specs.Lines.Deed.{Close, Unanswered}
use Rattle.cap_interpreter.specs.Lines.{events_max}
use Rattle.cap_applier.specs.Applier.{met}
use Rattle.cap_interpreter.specs.declared.held.Open.TheVariants.{Application}
use Rattle.cap_interpreter.proofs.ApplyingLemmas.{end_closes, end_commits, end_full, end_waits, none_of, refused_is}
use Rattle.cap_value.specs.declared.memory.Fault.TheVariants as fault
use Rattle.cap_interpreter.specs.Application.{transaction_left}
use Rattle.cap_interpreter.proofs.LineLemmas.{ran_none}
use Rattle.cap_interpreter.proofs.applying.end.Goals as goal

pub returns-then-is_at_conflict : goal.returns-then-is_at_conflict
returns-then-is_at_conflict g c =
    let line = c.args.line.now in
    let app = c.args.app in
    let run = c.keep.ensures in
    ran_none line (holding c.args.core.now (Some (Application app))) Unanswered (Some (Application app)) (outcome_text line outcome.Unanswered) c.keep.result (string_bytes c.args.output.now) (string_bytes c.keep.new.output)
    (end_waits line app c.requires.ends (sym c.is_at_conflict.ensures ∙ c.if-is_at_conflict.true)) refl (λ course at. at.txn) (λ h. refl) run.left run.text run.memory run.same

pub returns-then-events-ge-EVENTS_MAX : goal.returns-then-events-ge-EVENTS_MAX
returns-then-events-ge-EVENTS_MAX g c =
    let full : events_max ≤ c.args.core.now.events = search rules in
    end_full c.args.line.now c.args.app c.args.core.now (string_bytes c.args.output.now) c.requires.ends (sym c.is_at_conflict.ensures ∙ c.if-is_at_conflict.false) c.is_committed.ensures full

pub commit-requires : goal.commit-requires
commit-requires g c = record {
  end = none_of (met c.args.app.applier) (sym c.is_at_conflict.ensures ∙ c.if-is_at_conflict.false);
  ends = end_commits c.args.line.now c.args.app c.in-Ok.txn c.requires.ends (sym c.is_at_conflict.ensures ∙ c.if-is_at_conflict.false) c.in-Ok.ensures;
}

pub returns-in-Err-Refused : goal.returns-in-Err-Refused
returns-in-Err-Refused g c =
    let line = c.args.line.now in
    let app = c.args.app in
    let why = c.in-Err-Refused.why in
    let run = c.close.ensures in
    let is : c.in-Err-Refused.field-0 ≡ fault.Refused why = search rules in
    let left = refused_is (transaction_left app) c.in-Err-Refused.field-0 why is c.in-Err-Refused.ensures in
    ran_none line (holding c.args.core.now (Some (Application app))) (Close why) None (reply_text line (reply.Refused (change_refused why) why)) c.close.result (string_bytes c.args.output.now) (string_bytes c.close.new.output)
    (end_closes line app why c.requires.ends (sym c.is_at_conflict.ensures ∙ c.if-is_at_conflict.false) left) refl (λ course at. refl) (λ h. refl) run.left run.text run.memory run.same
