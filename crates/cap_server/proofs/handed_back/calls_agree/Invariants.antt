use Rattle.std.proofs.Common.{All, take}
use Rattle.cap_server.specs.Code.Seats.{Agrees}
use Rattle.cap_server.proofs.handed_back.calls_agree.Given as goal

abbrev pub invariant-loop-seat : goal.invariant-loop-seat
invariant-loop-seat g l = All (Agrees g.J.Naming.seats l.counts) (take l.seat-index l.seats)
