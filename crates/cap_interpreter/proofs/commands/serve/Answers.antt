use Rattle.std.specs.Prelude.{string_bytes}
use Rattle.cap_interpreter.proofs.LineLemmas.{its_reply, one_event}
use Rattle.cap_interpreter.proofs.commands.serve.Goals as goal

pub returns-in-Ok-clause-served : goal.returns-in-Ok-clause-served
returns-in-Ok-clause-served g c = λ h legal is.
    let core = c.args.core.now in
    let command = c.args.command.now in
    let law = c.legal_histories_grow.ensures in (
      one_event h command core c.serve_with_room.new.core is c.in-Ok.ensures.ok.0 (law.next h 0 command legal),
      its_reply h c.args.line.now command core (string_bytes c.args.output.now) (string_bytes c.serve_with_room.new.output) is c.in-Ok.ensures.ok.1 (law.reply h command),
    )
