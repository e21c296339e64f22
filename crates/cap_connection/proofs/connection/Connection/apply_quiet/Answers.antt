use Rattle.cap_connection.proofs.QuietLemmas.{applied_quietly}
use Rattle.cap_connection.proofs.connection.Connection.apply_quiet.Goals as goal

pub returns-in-Ok : goal.returns-in-Ok
returns-in-Ok c =
    rw c.in-Ok.ensures at (applied_quietly c.args.policy c.in-Ok.quiet c.args.it.now c.apply.new.it c.args.self.now c.apply.new.self c.apply.result c.apply.ensures)
