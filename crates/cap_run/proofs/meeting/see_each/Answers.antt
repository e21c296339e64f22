use Rattle.std.proofs.Common.{subst, take, All, List}
use Rattle.std.proofs.lemmas.List.{take_all}
use Rattle.std.proofs.lemmas.List.Elements.{All-more, All-weaker}
use mathlib.Core.List.{IsPrefix}
use Rattle.cap_core.specs.declared.event.Event.{Event}
use Rattle.cap_history.specs.Beginnings.{prefix-trans}
use Rattle.cap_run.proofs.meeting.see_each.Goals as goal

pub loop-worker-preserved : goal.loop-worker-preserved
loop-worker-preserved g c =
    let workers = c.args.workers.now in
    let new = c.meet-in-loop-worker.new.self in
    let old = c.loop-worker.list in
    let longer = c.meet-in-loop-worker.ensures.this in
    record {
      list = prefix-trans c.args.list.now old new c.loop-worker.invariant.list longer;
      workers =
          All-more (λ w. IsPrefix w.seat.seen new) workers c.loop-worker.worker-index c.worker-item.result c.loop-worker-test.true
          (All-weaker (λ w. IsPrefix w.seat.seen old) (λ w. IsPrefix w.seat.seen new) (λ w before. prefix-trans w.seat.seen old new before longer) (take c.loop-worker.worker-index workers) c.loop-worker.invariant.workers)
          (subst (λ w. IsPrefix w.seat.seen new) c.worker-item.is (subst (λ (l : List (Event g.row.A.Denot)). IsPrefix l new) c.list.ensures c.meet-in-loop-worker.ensures.that));
    }

pub returns-clause-workers : goal.returns-clause-workers
returns-clause-workers g c =
    let list = c.loop-worker.list in
    subst (λ l. All (λ w. IsPrefix w.seat.seen list) l) (take_all c.loop-worker.worker-index c.args.workers.now c.loop-worker-test.false) c.loop-worker.invariant.workers
