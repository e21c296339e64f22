use Rattle.std.proofs.Common.{◌≡◌, ◌++◌, [], List, length, map, ap, sym, ◌∙◌, append-nil, arith}
use Rattle.std.proofs.lemmas.List.{nil_from_length}
use Rattle.std.specs.Vec.Iter.{into_iter_items}
use Rattle.cap_run.proofs.SeatLemmas.{seats_taken}
use Rattle.cap_run.proofs.workload.take_seats.Goals as goal

pub loop-worker-preserved : goal.loop-worker-preserved
loop-worker-preserved g c =
    let so = c.loop-worker.invariant in
    let next = c.in-Some.ensures.steps in
    let put = c.push_reserved.ensures in
    record {
      seats = seats_taken (λ w. w.seat) c.loop-worker.seats.items c.push_reserved.new.self.items _ _ _ _ so.seats next.0 put.items;
      room = omega (arith, so.room, next.1, put.len, put.capacity);
      counted = omega (arith, so.counted, ap length next.0, next.1);
    }

pub returns : goal.returns
returns g c =
    let so = c.loop-worker.invariant in
    let none = nil_from_length (into_iter_items c.loop-worker.worker-iterator) (so.counted ∙ c.in-None.ensures.steps.0) in
    record { seats = sym (append-nil c.loop-worker.seats.items) ∙ ap (λ l. c.loop-worker.seats.items ++ map (λ w. w.seat) l) (sym none) ∙ so.seats }
