use Rattle.cap_connection.proofs.ReplyLemmas.{snapshot_taken}
use Rattle.cap_connection.proofs.connection.Connection.read.Goals as goal

pub snapshot_in-requires : goal.snapshot_in-requires
snapshot_in-requires c = record { snapshot = snapshot_taken c.args.self.now c.accepted.new.self c.in-Ok.reply c.in-Ok.ensures }
