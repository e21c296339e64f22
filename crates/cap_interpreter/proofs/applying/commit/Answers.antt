use Rattle.std.proofs.Common.{None, Some, refl}
use Rattle.std.specs.Prelude.{string_bytes}
use Rattle.cap_txn.specs.Transaction.{batch_of}
use Rattle.cap_core.specs.Answer.{reply_of}
use Rattle.cap_core.specs.declared.command.Command.TheVariants.{Commit}
use Rattle.cap_replies.specs.Printed.{reply_text}
use Rattle.cap_interpreter.specs.Code.Runs.{holding}
use Rattle.cap_interpreter.specs.Lines.{ended_line}
use Rattle.cap_interpreter.specs.Lines.Deed.{EndApply}
use Rattle.cap_interpreter.specs.declared.held.Open.TheVariants.{Application}
use Rattle.cap_interpreter.proofs.LineLemmas.{ran_command}
use Rattle.cap_interpreter.proofs.applying.commit.Goals as goal

pub returns : goal.returns
returns g c =
    let line = c.args.line.now in
    let app = c.args.app in
    let txn = c.args.txn in
    let command = Commit (batch_of txn) in
    let run = c.serve.ensures in
    ran_command line (holding c.args.core.now (Some (Application app))) (EndApply app txn) command c.serve.new.core None (λ h. reply_text (ended_line line app (batch_of txn)) (reply_of h command))
    c.serve.result (string_bytes c.args.output.now) (string_bytes c.serve.new.output) c.requires.ends refl tt
    (λ course at. refl) (λ h. refl) (rw c.ended_line-ended.ensures at run.served) run.left run.room run.fault run.unchanged run.same
