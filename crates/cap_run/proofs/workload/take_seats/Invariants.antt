use Rattle.std.proofs.Common.{◌≡◌, ◌≤◌, ◌+◌, ◌++◌, length, map, vec_capacity, vec_len}
use Rattle.std.specs.Vec.Iter.{into_iter_items, into_iter_len}
use Rattle.cap_run.proofs.workload.take_seats.Given as goal

abbrev pub invariant-loop-worker : goal.invariant-loop-worker
invariant-loop-worker g l = record {
  seats : l.seats.items ++ map (λ w. w.seat) (into_iter_items l.worker-iterator) ≡ l.fn.seats.items ++ map (λ w. w.seat) l.fn.workers.items;
  room : vec_len l.seats + into_iter_len l.worker-iterator ≤ vec_capacity l.seats;
  counted : length (into_iter_items l.worker-iterator) ≡ into_iter_len l.worker-iterator;
}
