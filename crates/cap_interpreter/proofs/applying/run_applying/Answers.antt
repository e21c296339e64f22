use Rattle.cap_interpreter.proofs.LineLemmas.{serves_applying}
use Rattle.cap_interpreter.proofs.applying.run_applying.Goals as goal

pub serve_line-requires : goal.serve_line-requires
serve_line-requires g c = record {
  serves = serves_applying c.args.app c.args.line.now.line.show c.args.line.now.line.command c.in_default.not-Step;
}
