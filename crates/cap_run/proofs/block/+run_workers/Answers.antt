use Rattle.std.proofs.Common.{◌∙◌, ap, map, string_bytes, sym}
use Rattle.cap_run.specs.Code.Calls.{seat_lines, work}
use Rattle.cap_run.proofs.GatherLemmas.{worked_back}
use Rattle.cap_run.proofs.WorkerLemmas.{work_same, worked_none, worked_promised}
use Rattle.cap_run.proofs.block.+run_workers.Goals as goal

-- the worker has no line in the block
pub returns-then-not-is_given-clause-worked : goal.returns-then-not-is_given-clause-worked
returns-then-not-is_given-clause-worked g t c =
    let threads = c.args.shared.now.threads in
    let block = c.args.block.now in
    worked_back (λ w. w.seat) (λ w. work w.seat (map string_bytes w.texts.items) w.ended) threads block c.args.workers.now.items c.pop.new.self.items c.run_workers.new.workers.items _
    c.in-Some.worker c.ended.result c.in-Some.ensures.items c.push_reserved.ensures.items c.run_workers.ensures.worked
    (worked_none threads block c.in-Some.worker.seat _ (ap (λ n. seat_lines threads n block) (sym c.number.ensures.number) ∙ (rw c.if-not-is_given.true at c.is_given.ensures))
    (work_same _ _ _ _ _ _ c.ended.ensures.seat (ap (map string_bytes) c.ended.ensures.texts) c.ended.ensures.ended))

-- it had a thread
pub returns-in-Ok-clause-worked : goal.returns-in-Ok-clause-worked
returns-in-Ok-clause-worked g t c =
    worked_back (λ w. w.seat) (λ w. work w.seat (map string_bytes w.texts.items) w.ended) c.args.shared.now.threads c.args.block.now c.args.workers.now.items c.pop.new.self.items c.run_workers-in-Ok.new.workers.items _
    c.in-Some.worker c.join.result c.in-Some.ensures.items c.push_reserved-in-Ok.ensures.items c.run_workers-in-Ok.ensures.worked
    (worked_promised c.args.shared.now.threads _ c.args.block.now _ c.in-Some.worker.seat _ _ c.in-Ok.ensures.threads c.in-Ok.ensures.block c.in-Ok.ensures.worker c.join.ensures)

-- it had none
pub returns-in-Err-clause-worked : goal.returns-in-Err-clause-worked
returns-in-Err-clause-worked g t c =
    worked_back (λ w. w.seat) (λ w. work w.seat (map string_bytes w.texts.items) w.ended) c.args.shared.now.threads c.args.block.now c.args.workers.now.items c.pop.new.self.items c.run_workers-in-Err.new.workers.items _
    c.in-Some.worker c.in-Err.worker c.in-Some.ensures.items c.push_reserved-in-Err.ensures.items c.run_workers-in-Err.ensures.worked c.in-Err.ensures.here
