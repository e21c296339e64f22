use Rattle.cap_server.specs.Close.{HasAll}
use Rattle.cap_server.proofs.handed_back.missing_seat.Given as goal

abbrev pub invariant-loop-number : goal.invariant-loop-number
invariant-loop-number g l = HasAll l.seats l.number
