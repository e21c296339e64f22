use Rattle.std.proofs.Common.{inl}
use Rattle.cap_connection.proofs.connection.Connection.capture.Goals as goal

pub run_captured-requires : goal.run_captured-requires
run_captured-requires c = record { captures = (c.args.session, inl c.capture.ensures) }
