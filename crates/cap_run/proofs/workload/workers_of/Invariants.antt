use Rattle.std.proofs.Common.{◌≡◌, ◌++◌, map}
use Rattle.std.specs.Vec.Iter.{into_iter_items}
use Rattle.cap_run.proofs.workload.workers_of.Given as goal

abbrev pub invariant-loop-seat : goal.invariant-loop-seat
invariant-loop-seat g l = map (λ w. w.seat) l.workers.items ++ into_iter_items l.seat-iterator ≡ l.fn.seats.items
