use Rattle.std.proofs.Common.{◌∙◌, None, Some, ap, refl}
use Rattle.std.specs.Prelude.{string_bytes}
use Rattle.cap_txn.specs.Transaction.{batch_of}
use Rattle.cap_core.specs.Answer.{reply_of}
use Rattle.cap_core.specs.declared.command.Command.TheVariants.{Commit}
use Rattle.cap_script.specs.declared.line.Show.{Show}
use Rattle.cap_script.specs.declared.line.Show.TheVariants.{Step}
use Rattle.cap_replies.specs.Outcomes.{outcome_text}
use Rattle.cap_replies.specs.Printed.{reply_text}
use Rattle.cap_replies.specs.declared.outcome.Outcome.TheVariants.{InTransaction, NoConflict, RolledBack}
use Rattle.cap_interpreter.specs.Code.Runs.{holding}
use Rattle.cap_interpreter.specs.Lines.{deed_within}
use Rattle.cap_interpreter.specs.Lines.Deed.{End, IsOpen, NotPut, Rollback}
use Rattle.cap_interpreter.specs.declared.held.Open.TheVariants.{Transaction}
use Rattle.cap_applier.specs.declared.merge.MergeRefusal.TheVariants as merge
use Rattle.cap_interpreter.proofs.LineLemmas.{ran_call, ran_command, ran_none}
use Rattle.cap_interpreter.proofs.lines.step_within.Goals as goal

pub returns-in-Begin : goal.returns-in-Begin
returns-in-Begin g c =
    let line = c.args.line.now in
    let txn = c.args.txn in
    let run = c.keep.ensures in
    let show = c.requires.step ∙ ap Step c.in-Begin.is in
    ran_none line (holding c.args.core.now (Some (Transaction txn))) IsOpen (Some (Transaction txn)) (outcome_text line InTransaction) c.keep.result (string_bytes c.args.output.now) (string_bytes c.keep.new.output)
    (ap (λ (s : Show g.row.A.Denot). deed_within txn s line.line.command) show) refl (λ course at. at.txn) (λ h. refl) run.left run.text run.memory run.same

pub returns-in-Call : goal.returns-in-Call
returns-in-Call g c =
    let line = c.args.line.now in
    let txn = c.args.txn in
    let run = c.tell_answer.ensures in
    let show = c.requires.step ∙ ap Step c.in-Call.is in
    ran_call line c.args.core.now txn c.call-answer.new.txn c.in-Call.asked c.call-answer.result c.tell_answer.result (string_bytes c.args.output.now) (string_bytes c.tell_answer.new.output)
    (ap (λ (s : Show g.row.A.Denot). deed_within txn s line.line.command) show) c.call-answer.ensures run.left run.text run.memory run.same

pub returns-in-Rollback : goal.returns-in-Rollback
returns-in-Rollback g c =
    let line = c.args.line.now in
    let txn = c.args.txn in
    let run = c.tell.ensures in
    let show = c.requires.step ∙ ap Step c.in-Rollback.is in
    ran_none line (holding c.args.core.now (Some (Transaction txn))) Rollback None (outcome_text line RolledBack) c.tell.result (string_bytes c.args.output.now) (string_bytes c.tell.new.output)
    (ap (λ (s : Show g.row.A.Denot). deed_within txn s line.line.command) show) refl (λ course at. refl) (λ h. refl) run.left run.text run.memory run.same

pub returns-in-End : goal.returns-in-End
returns-in-End g c =
    let line = c.args.line.now in
    let txn = c.args.txn in
    let command = Commit (batch_of txn) in
    let run = c.serve.ensures in
    let show = c.requires.step ∙ ap Step c.in-End.is in
    ran_command line (holding c.args.core.now (Some (Transaction txn))) (End txn) command c.serve.new.core None (λ h. reply_text line (reply_of h command))
    c.serve.result (string_bytes c.args.output.now) (string_bytes c.serve.new.output) (ap (λ (s : Show g.row.A.Denot). deed_within txn s line.line.command) show) refl tt
    (λ course at. refl) (λ h. refl) (rw c.into_batch-batch.ensures at run.served) run.left run.room run.fault run.unchanged run.same

pub returns-in-ApplyEach : goal.returns-in-ApplyEach
returns-in-ApplyEach g c =
    let line = c.args.line.now in
    let txn = c.args.txn in
    let run = c.keep-in-ApplyEach.ensures in
    let show = c.requires.step ∙ ap Step c.in-ApplyEach.is in
    ran_none line (holding c.args.core.now (Some (Transaction txn))) IsOpen (Some (Transaction txn)) (outcome_text line InTransaction) c.keep-in-ApplyEach.result (string_bytes c.args.output.now) (string_bytes c.keep-in-ApplyEach.new.output)
    (ap (λ (s : Show g.row.A.Denot). deed_within txn s line.line.command) show) refl (λ course at. at.txn) (λ h. refl) run.left run.text run.memory run.same

pub returns-in-Answer : goal.returns-in-Answer
returns-in-Answer g c =
    let line = c.args.line.now in
    let txn = c.args.txn in
    let run = c.keep-in-Answer.ensures in
    let show = c.requires.step ∙ ap Step c.in-Answer.is in
    ran_none line (holding c.args.core.now (Some (Transaction txn))) (NotPut merge.NoConflict) (Some (Transaction txn)) (outcome_text line NoConflict) c.keep-in-Answer.result (string_bytes c.args.output.now) (string_bytes c.keep-in-Answer.new.output)
    (ap (λ (s : Show g.row.A.Denot). deed_within txn s line.line.command) show) refl (λ course at. at.txn) (λ h. refl) run.left run.text run.memory run.same

pub returns-in-Put : goal.returns-in-Put
returns-in-Put g c =
    let line = c.args.line.now in
    let txn = c.args.txn in
    let run = c.keep-in-Put.ensures in
    let show = c.requires.step ∙ ap Step c.in-Put.is in
    ran_none line (holding c.args.core.now (Some (Transaction txn))) (NotPut merge.NoConflict) (Some (Transaction txn)) (outcome_text line NoConflict) c.keep-in-Put.result (string_bytes c.args.output.now) (string_bytes c.keep-in-Put.new.output)
    (ap (λ (s : Show g.row.A.Denot). deed_within txn s line.line.command) show) refl (λ course at. at.txn) (λ h. refl) run.left run.text run.memory run.same
