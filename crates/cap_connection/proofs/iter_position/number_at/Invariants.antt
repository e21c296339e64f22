use Rattle.std.proofs.Common.{◌≡◌, ◌+◌, take}
use Rattle.std.specs.Prelude.{sum}
use Rattle.cap_connection.specs.Positions.{counts}
use Rattle.cap_connection.proofs.iter_position.number_at.Given as goal

abbrev pub invariant-loop-group : goal.invariant-loop-group
invariant-loop-group l = l.number ≡ sum (take l.group (counts l.contents)) + l.fn.position.change
