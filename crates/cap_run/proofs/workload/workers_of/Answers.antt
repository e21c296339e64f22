use Rattle.cap_run.proofs.SeatLemmas.{workers_made}
use Rattle.cap_run.proofs.workload.workers_of.Goals as goal

pub loop-seat-preserved : goal.loop-seat-preserved
loop-seat-preserved g c =
    workers_made (λ w. w.seat) c.loop-seat.workers.items c.push.new.self.items _ c.args.seats.items _ _ c.loop-seat.invariant c.in-Some.ensures.steps.0 c.in_ok-push.ensures.items
