use Rattle.cap_connection.proofs.ReplyLemmas.{capture_taken}
use Rattle.cap_connection.proofs.connection.Connection.run_captured.Goals as goal

pub of-requires : goal.of-requires
of-requires c = record { captured = capture_taken c.args.self.now c.accepted.new.self c.args.command.now c.in-Ok.reply c.requires.captures c.in-Ok.ensures }
