use Rattle.std.proofs.Common.{map, string_bytes, ap}
use Rattle.cap_run.proofs.WorkerLemmas.{work_same, worked_refused}
use Rattle.cap_run.proofs.block.carry_out.Goals as goal

-- there is no thread for the worker
pub returns-then-load-number : goal.returns-then-load-number
returns-then-load-number g c = record {
  worked = worked_refused c.args.task.shared.now.threads c.args.task.block.now c.args.task.worker.seat _ c.requires.given
      (work_same _ _ _ _ _ _ c.ended.ensures.seat (ap (map string_bytes) c.ended.ensures.texts) c.ended.ensures.ended);
}
