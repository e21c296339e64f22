use Rattle.std.proofs.Common.{◌≡◌, ◌++◌, length}
use Rattle.cap_run.specs.Pieces.{joined}
use Rattle.cap_run.proofs.pieces.Pieces.join.Given as goal

abbrev pub invariant-loop-piece : goal.invariant-loop-piece
invariant-loop-piece g l = l.bytes.items ++ (joined l.full.items ++ l.last.items) ≡ l.fn.self

abbrev pub decreases-loop-piece : goal.decreases-loop-piece
decreases-loop-piece g l = length l.full.items
