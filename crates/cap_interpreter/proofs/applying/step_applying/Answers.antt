use Rattle.std.proofs.Common.{◌∙◌, None, Some, ap, refl}
use Rattle.std.specs.Prelude.{string_bytes}
use Rattle.cap_applier.specs.Applier.{met}
use Rattle.cap_applier.specs.Merge.{refused_merge}
use Rattle.cap_script.specs.declared.line.Show.{Show}
use Rattle.cap_script.specs.declared.line.Show.TheVariants.{Step}
use Rattle.cap_replies.specs.Outcomes.{outcome_text}
use Rattle.cap_replies.specs.declared.outcome.Outcome.TheVariants.{InTransaction, NoTransaction, RolledBack}
use Rattle.cap_interpreter.specs.Code.Runs.{holding}
use Rattle.cap_interpreter.specs.Lines.{deed_answer, deed_applying, deed_put}
use Rattle.cap_interpreter.specs.Lines.Deed.{IsOpen, NotOpen, Rollback}
use Rattle.cap_interpreter.specs.declared.held.Open.TheVariants.{Application}
use Rattle.cap_interpreter.proofs.LineLemmas.{ran_did, ran_none}
use Rattle.cap_interpreter.proofs.applying.step_applying.Goals as goal

pub returns-in-Begin : goal.returns-in-Begin
returns-in-Begin g c =
    let line = c.args.line.now in
    let app = c.args.app in
    let run = c.keep.ensures in
    let show = c.requires.step ∙ ap Step c.in-Begin.is in
    ran_none line (holding c.args.core.now (Some (Application app))) IsOpen (Some (Application app)) (outcome_text line InTransaction) c.keep.result (string_bytes c.args.output.now) (string_bytes c.keep.new.output)
    (ap (λ (s : Show g.row.A.Denot). deed_applying app s line.line.command) show) refl (λ course at. at.txn) (λ h. refl) run.left run.text run.memory run.same

pub returns-in-ApplyEach : goal.returns-in-ApplyEach
returns-in-ApplyEach g c =
    let line = c.args.line.now in
    let app = c.args.app in
    let run = c.keep-in-ApplyEach.ensures in
    let show = c.requires.step ∙ ap Step c.in-ApplyEach.is in
    ran_none line (holding c.args.core.now (Some (Application app))) IsOpen (Some (Application app)) (outcome_text line InTransaction) c.keep-in-ApplyEach.result (string_bytes c.args.output.now) (string_bytes c.keep-in-ApplyEach.new.output)
    (ap (λ (s : Show g.row.A.Denot). deed_applying app s line.line.command) show) refl (λ course at. at.txn) (λ h. refl) run.left run.text run.memory run.same

pub returns-in-Call : goal.returns-in-Call
returns-in-Call g c =
    let line = c.args.line.now in
    let app = c.args.app in
    let run = c.keep-in-Call.ensures in
    let show = c.requires.step ∙ ap Step c.in-Call.is in
    ran_none line (holding c.args.core.now (Some (Application app))) NotOpen (Some (Application app)) (outcome_text line NoTransaction) c.keep-in-Call.result (string_bytes c.args.output.now) (string_bytes c.keep-in-Call.new.output)
    (ap (λ (s : Show g.row.A.Denot). deed_applying app s line.line.command) show) refl (λ course at. at.txn) (λ h. refl) run.left run.text run.memory run.same

pub returns-in-Rollback : goal.returns-in-Rollback
returns-in-Rollback g c =
    let line = c.args.line.now in
    let app = c.args.app in
    let run = c.tell.ensures in
    let show = c.requires.step ∙ ap Step c.in-Rollback.is in
    ran_none line (holding c.args.core.now (Some (Application app))) Rollback None (outcome_text line RolledBack) c.tell.result (string_bytes c.args.output.now) (string_bytes c.tell.new.output)
    (ap (λ (s : Show g.row.A.Denot). deed_applying app s line.line.command) show) refl (λ course at. refl) (λ h. refl) run.left run.text run.memory run.same

pub returns-in-Answer : goal.returns-in-Answer
returns-in-Answer g c =
    let line = c.args.line.now in
    let app = c.args.app in
    let show = c.requires.step ∙ ap Step c.in-Answer.is in
    ran_did line (holding c.args.core.now (Some (Application app))) (deed_answer app c.in-Answer.answer (met app.applier)) c.answer_conflict.result (string_bytes c.args.output.now) (string_bytes c.answer_conflict.new.output)
    (ap (λ (s : Show g.row.A.Denot). deed_applying app s line.line.command) show) c.answer_conflict.ensures

pub returns-in-Put : goal.returns-in-Put
returns-in-Put g c =
    let line = c.args.line.now in
    let app = c.args.app in
    let row = c.in-Put.row in
    let show = c.requires.step ∙ ap Step c.in-Put.is in
    ran_did line (holding c.args.core.now (Some (Application app))) (deed_put app row (refused_merge app.applier row)) c.put_row.result (string_bytes c.args.output.now) (string_bytes c.put_row.new.output)
    (ap (λ (s : Show g.row.A.Denot). deed_applying app s line.line.command) show) c.put_row.ensures
