use Rattle.std.proofs.Common.{◌-◌}
use Rattle.cap_connection.specs.Positions.{IsFrom, IsPosition, counts}
use Rattle.cap_connection.specs.declared.iter_position.Position.{Position}
use Rattle.cap_connection.proofs.iter_position.first_from.Given as goal

-- no change is between where it began and here
abbrev pub invariant-loop-position : goal.invariant-loop-position
invariant-loop-position l =
    IsFrom l.fn.from l.position
    × ((other : Position) → IsPosition (counts l.contents) other → IsFrom l.fn.from other → IsFrom l.position other)

abbrev pub decreases-loop-position : goal.decreases-loop-position
decreases-loop-position l = l.groups - l.position.group
