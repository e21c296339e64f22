use Rattle.std.proofs.Common.{◌≡◌, length}
use Rattle.cap_core.proofs.server.Core.run.Given as goal
use Rattle.cap_core.proofs.LawLemmas.{Ran}

abbrev pub invariant-loop-command : goal.invariant-loop-command
invariant-loop-command g l = (length l.replies.items ≡ l.command-index) × Ran l.commands l.replies.items l.core
