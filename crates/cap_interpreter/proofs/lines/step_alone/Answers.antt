use Rattle.std.proofs.Common.{◌∙◌, None, Some, ap, refl}
use Rattle.std.specs.Prelude.{string_bytes}
use Rattle.cap_txn.specs.Transaction.{begin_traced}
use Rattle.cap_core.specs.Answer.{State, snapshot_of, state}
use Rattle.cap_core.specs.declared.command.Command.TheVariants.{Read}
use Rattle.cap_script.specs.declared.line.Show.{Show}
use Rattle.cap_script.specs.declared.line.Show.TheVariants.{Step}
use Rattle.cap_replies.specs.Outcomes.{outcome_text}
use Rattle.cap_replies.specs.Stops.{stop_text}
use Rattle.cap_replies.specs.declared.outcome.Outcome.TheVariants.{Begun}
use Rattle.cap_interpreter.specs.Code.Runs.{holding}
use Rattle.cap_interpreter.specs.Lines.{deed_alone}
use Rattle.cap_interpreter.specs.Application.{opened}
use Rattle.cap_interpreter.specs.Lines.Deed.{ApplyEach, Begin}
use Rattle.cap_interpreter.specs.declared.held.Open.TheVariants.{Application, Transaction}
use Rattle.cap_interpreter.proofs.LineLemmas.{ran_command}
use Rattle.cap_interpreter.proofs.lines.step_alone.Goals as goal

pub returns-in-Begin : goal.returns-in-Begin
returns-in-Begin g c =
    let line = c.args.line.now in
    let core = c.args.core.now in
    let run = c.begin.ensures in
    let show = c.requires.step ∙ ap Step c.in-Begin.is in
    ran_command line (holding core None) Begin Read c.begin.new.core (Some (Transaction (begin_traced (snapshot_of core)))) (λ h. outcome_text line Begun)
    c.begin.result (string_bytes c.args.output.now) (string_bytes c.begin.new.output) (ap (λ (s : Show g.row.A.Denot). deed_alone s line.line.command) show) refl tt
    (λ course at. ap (λ (s : State g.row.A.Denot). Some (Transaction (begin_traced (snapshot_of s)))) at.core) (λ h. refl) run.served run.left run.room run.fault run.unchanged run.same

pub returns-in-ApplyEach : goal.returns-in-ApplyEach
returns-in-ApplyEach g c =
    let line = c.args.line.now in
    let core = c.args.core.now in
    let run = c.apply_each.ensures in
    let blob = c.in-ApplyEach.blob in
    let filter = c.in-ApplyEach.filter in
    let show = c.requires.step ∙ ap Step c.in-ApplyEach.is in
    ran_command line (holding core None) (ApplyEach blob filter) Read c.apply_each.new.core (Some (Application (opened (snapshot_of core) blob filter)))
    (λ h. stop_text line (opened (snapshot_of (state h)) blob filter).applier)
    c.apply_each.result (string_bytes c.args.output.now) (string_bytes c.apply_each.new.output) (ap (λ (s : Show g.row.A.Denot). deed_alone s line.line.command) show) refl tt
    (λ course at. ap (λ (s : State g.row.A.Denot). Some (Application (opened (snapshot_of s) blob filter))) at.core) (λ h. refl) run.served run.left run.room run.fault run.unchanged run.same
