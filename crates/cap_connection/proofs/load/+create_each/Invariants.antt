use Rattle.std.proofs.Common.{length}
use Rattle.cap_connection.proofs.load.+create_each.Given as goal

abbrev pub decreases-create_each : goal.decreases-create_each
decreases-create_each g l = length l.groups.now
