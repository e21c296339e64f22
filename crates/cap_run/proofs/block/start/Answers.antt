use Rattle.std.proofs.Common.{rules, ap, map, string_bytes}
use denote.Param.Send.{sendable}
use Rattle.cap_run.specs.Code.Calls.{HasWorked, work}
use Rattle.cap_run.proofs.Crossing.{task_send}
use Rattle.cap_run.proofs.WorkerLemmas.{work_same, worked_stopped}
use Rattle.cap_run.proofs.block.start.Goals as goal

pub spawn_with-requires-send-F : goal.spawn_with-requires-send-F
spawn_with-requires-send-F g c κs within = search (task_send, sendable) depth 40 fits 100000

-- there is no thread for the worker
pub returns-in-Err-clause-here : goal.returns-in-Err-clause-here
returns-in-Err-clause-here g c =
    let task = c.args.task in
    let back = c.work-worker.result in
    let worked : HasWorked task.shared.now.threads task.block.now task.worker.seat (work back.seat (map string_bytes back.texts.items) back.ended) = search rules in
    worked_stopped task.shared.now.threads task.block.now task.worker.seat _ _ c.requires.given worked
    (work_same _ _ _ _ _ _ c.ended.ensures.seat (ap (map string_bytes) c.ended.ensures.texts) c.ended.ensures.ended)
