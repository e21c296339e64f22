use Rattle.cap_connection.proofs.CallLemmas.{calls_text}
use Rattle.cap_connection.proofs.connection.Connection.call.Goals as goal

pub returns-in-Ok : goal.returns-in-Ok
returns-in-Ok c = calls_text c.args.text.now c.in-Ok.line _ _ c.in-Ok.ensures.one c.run_line.result c.run_line.ensures
