-- What a worker is given goes to a thread of its own.
use denote.RattleType.{RattleType}
use denote.Ref.{NamedLft}
use denote.Param.Send.{IsSend, IsSync, Frees, sendable}
use Rattle.std.proofs.Crossing.{crosses}
use Rattle.std.specs.declared.alloc.Allocator as allocator
use Rattle.std.specs.declared.clone.Clone as clone
use Rattle.cap_value.specs.declared.memory.AllocHandle as handle
use Rattle.cap_server.specs.declared.naming.Naming as naming
use Rattle.cap_replies.proofs.Crossing.{run_line_sync}
use Rattle.cap_server.proofs.Crossing.{server_sync}
use Rattle.cap_run.proofs.worker.Worker.TheSendSync as worker
use Rattle.cap_run.specs.contracts.block.Task as Task
use Rattle.cap_run.specs.contracts.worker.Shared as Shared

module _ (b : NamedLft) (J A R G : RattleType) (n : naming.Ghosts J.Denot) (h : handle.Ghosts A.Denot) (a : allocator.Ghosts A.Denot)
    (c : clone.Ghosts A.Denot) (js : IsSend J) (jy : IsSync J) (al : IsSend A) (ay : IsSync A) (ry : IsSync R) (gy : IsSync G)
    (frees : Frees a a.dealloc_token) where
  shared_sync : IsSync (Shared.the_row b J A R G n h a c)
  shared_sync = search (server_sync, sendable, crosses) depth 40 fits 100000

  pub task_send : IsSend (Task.the_row b J A R G n h a c)
  task_send = search (shared_sync, run_line_sync, worker.the_field_send, sendable, crosses) depth 40 fits 100000
