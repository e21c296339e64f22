use Rattle.std.proofs.Common.{◌≡◌, [], ◌∷◌, ap, subst, sym}
use Rattle.cap_core.specs.Answer.{snapshot_of, state}
use Rattle.cap_core.specs.Table.{BlobsFit}
use Rattle.cap_core.specs.declared.command.Command.{Command}
use Rattle.cap_interpreter.specs.Lines.{after, begin_course, command_of, deed_alone, history_with}
use Rattle.cap_script.specs.declared.line.Show.{Show}
use Rattle.cap_script.specs.declared.line.Show.TheVariants.{Step}
use Rattle.cap_script.specs.declared.step.Step.TheVariants as step
use Rattle.cap_txn.specs.Transaction.{begin_traced}
use Rattle.cap_test_scripts.proofs.lines.a_begin.Goals as goal

-- a line that begins a transaction has no blob
fits : {A : Type 0} (show : Show A) (command : Command A) → show ≡ Step step.Begin → BlobsFit (history_with [] (command_of (deed_alone show command)))
unfolding BlobsFit
fits {A} show command is = subst (λ (s : Show A). BlobsFit (history_with [] (command_of (deed_alone s command)))) (sym is) (tt, tt)

pub returns : goal.returns
returns g c = λ line is.
    c.transactions_of_lines_commit_if_unchanged.ensures.commit (line ∷ []) (begin_traced (snapshot_of (state [])))
    (ap (λ s. (after begin_course (deed_alone s line.line.command)).txn) is)
    (fits line.line.show line.line.command is)
