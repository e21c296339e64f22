use Rattle.cap_connection.specs.Application.{filter_in}
use Rattle.cap_connection.proofs.AcceptedLemmas.{without_memory}
use Rattle.cap_connection.proofs.connection.Connection.apply_with.Goals as goal

pub returns-in-Err-OutOfMemory-clause-applied : goal.returns-in-Err-OutOfMemory-clause-applied
returns-in-Err-OutOfMemory-clause-applied c =
    without_memory (filter_in c.args.filter.now) c.args.policy c.args.quiet.now c.args.it.now c.args.self.now
