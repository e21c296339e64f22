use Rattle.std.proofs.Common.{All, take}
use mathlib.Core.List.{IsPrefix}
use Rattle.cap_server.proofs.handed_back.meet_all.Given as goal

abbrev pub invariant-loop-seat : goal.invariant-loop-seat
invariant-loop-seat g l = record { list : IsPrefix l.fn.list l.list; seats : All (λ seat. IsPrefix seat.seen l.list) (take l.seat-index l.seats) }
