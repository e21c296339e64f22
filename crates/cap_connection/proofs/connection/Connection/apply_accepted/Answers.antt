use Rattle.cap_connection.proofs.AcceptedLemmas.{without_copies}
use Rattle.cap_connection.proofs.connection.Connection.apply_accepted.Goals as goal

pub returns-in_default : goal.returns-in_default
returns-in_default c = without_copies c.args.filter.now c.args.policy c.args.quiet.now c.args.it.now c.args.self.now
