use Rattle.std.proofs.Common.{refl}
use Rattle.std.specs.Prelude.{string_bytes}
use Rattle.cap_core.specs.Answer.{reply_of}
use Rattle.cap_replies.specs.Printed.{reply_text}
use Rattle.cap_interpreter.specs.Code.Runs.{holding}
use Rattle.cap_interpreter.specs.Lines.Deed.{Serve}
use Rattle.cap_interpreter.proofs.LineLemmas.{ran_command}
use Rattle.cap_interpreter.proofs.lines.serve_line.Goals as goal

pub returns : goal.returns
returns g c =
    let line = c.args.line.now in
    let run = c.serve.ensures in
    ran_command line (holding c.args.core.now c.args.held) (Serve line.line.command) line.line.command c.serve.new.core c.args.held (λ h. reply_text line (reply_of h line.line.command))
    c.serve.result (string_bytes c.args.output.now) (string_bytes c.serve.new.output) c.requires.serves refl c.blob_fits.ensures
    (λ course at. at.txn) (λ h. refl) run.served run.left run.room run.fault run.unchanged run.same
