use Rattle.std.proofs.Common.{◌≡◌}
use Rattle.cap_history.specs.Seat.{newcomers}
use Rattle.cap_server.proofs.naming.seats_of.Given as goal

abbrev pub invariant-loop-number : goal.invariant-loop-number
invariant-loop-number g l = l.made.items ≡ newcomers l.number
