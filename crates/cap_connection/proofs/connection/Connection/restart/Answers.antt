use Rattle.std.proofs.Common.{inr}
use Rattle.cap_connection.proofs.connection.Connection.restart.Goals as goal

pub run_captured-requires : goal.run_captured-requires
run_captured-requires c = record { captures = (c.args.session, inr c.restart.ensures) }
