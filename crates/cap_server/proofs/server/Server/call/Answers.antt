use Rattle.cap_locked.proofs.Causes.{cause_of}
use Rattle.cap_server.proofs.server.Server.call.Goals as goal

pub returns-clause-cause : goal.returns-clause-cause
returns-clause-cause g c = cause_of c.step.result _ c.args.seat.now c.args.command.now c.step.ensures.cause
