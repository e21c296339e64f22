use Rattle.std.proofs.Common.{◌≡◌, Some, sym, ap, ◌∙◌}
use Rattle.cap_core.specs.Answer.{State}
use Rattle.cap_core.specs.RefusedFirst.{refused_first}
use Rattle.cap_core.proofs.server.Core.reply_to.Goals as goal
use Rattle.cap_core.proofs.NextLemmas.{first-answer, ok-first, refused-reports}

pub reply_only-requires-clause-can_ask : goal.reply_only-requires-clause-can_ask
reply_only-requires-clause-can_ask g c =
    let s = c.args.self.now in
    let command = c.args.command.now in
    let told = rw c.in-Err-OutOfMemory.field-0-is at c.in-Err-OutOfMemory.ensures in
    let known : Some (c.in-Some.at, c.in-Some.why) ≡ refused_first s command = c.in-Some.ensures ∙ ap (λ (t : State g.row.A.Denot). refused_first t command) told.0 in
    rw told.1 (rw (first-answer s command (c.in-Some.at, c.in-Some.why) (sym known)) at c.requires.can_ask)

pub returns-in-Ok-clause-first : goal.returns-in-Ok-clause-first
returns-in-Ok-clause-first g c = ok-first g.row.C-Refusal.Denot c.args.self.now c.args.command.now c.in-Ok.reply c.in-Ok.ensures.0

pub returns-in-Some-clause-outcome : goal.returns-in-Some-clause-outcome
returns-in-Some-clause-outcome g c =
    let s = c.args.self.now in
    let command = c.args.command.now in
    let told = rw c.in-Err-OutOfMemory.field-0-is at c.in-Err-OutOfMemory.ensures in
    let known : Some (c.in-Some.at, c.in-Some.why) ≡ refused_first s command = c.in-Some.ensures ∙ ap (λ (t : State g.row.A.Denot). refused_first t command) told.0 in
    refused-reports g.C.CommitHook.gives s c.reply_only.new.self command c.args.hook.now c.reply_only.new.hook (c.in-Some.at, c.in-Some.why) c.reply_only.result known
    (rw (told.0, told.1) at c.reply_only.ensures.outcome)
