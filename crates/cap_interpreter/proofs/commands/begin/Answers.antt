use Rattle.cap_core.specs.declared.command.Command.TheVariants.{Read}
use Rattle.cap_interpreter.proofs.LineLemmas.{one_event}
use Rattle.cap_interpreter.proofs.commands.begin.Goals as goal

pub returns-in-Ok-clause-served : goal.returns-in-Ok-clause-served
returns-in-Ok-clause-served g c = λ h legal is.
    (one_event h Read c.args.core.now c.begin_with_room.new.core is c.in-Ok.ensures.core (c.legal_histories_grow.ensures.next h 0 Read legal), c.in-Ok.ensures.text)
