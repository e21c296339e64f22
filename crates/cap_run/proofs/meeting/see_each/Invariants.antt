use Rattle.std.proofs.Common.{All, take}
use mathlib.Core.List.{IsPrefix}
use Rattle.cap_run.proofs.meeting.see_each.Given as goal

abbrev pub invariant-loop-worker : goal.invariant-loop-worker
invariant-loop-worker g l = record { list : IsPrefix l.fn.list l.list; workers : All (λ worker. IsPrefix worker.seat.seen l.list) (take l.worker-index l.workers) }
