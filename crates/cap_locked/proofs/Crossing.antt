-- What one call at a time has goes to another thread where its allocator may.
use denote.RattleType.{RattleType}
use denote.Param.Send.{IsSend, IsSync, Frees, sendable}
use Rattle.std.proofs.CrossingOver.{crosses}
use Rattle.std.specs.declared.alloc.Allocator as allocator
use Rattle.std.specs.declared.clone.Clone as clone
use Rattle.cap_value.specs.declared.memory.AllocHandle as handle
use Rattle.cap_core.proofs.Crossing.{core_send, core_sync}
use Rattle.cap_history.proofs.list.List.TheSendSync as list
use Rattle.cap_locked.specs.contracts.locked.Locked as Locked

module _ (A : RattleType) (h : handle.Ghosts A.Denot) (a : allocator.Ghosts A.Denot) (c : clone.Ghosts A.Denot)
    (al : IsSend A) (ay : IsSync A) (frees : Frees a a.dealloc_token) where
  pub locked_send : IsSend (Locked.the_row A h a c)
  locked_send = search (core_send, list.the_send, sendable, crosses) depth 40 fits 100000

  pub locked_sync : IsSync (Locked.the_row A h a c)
  locked_sync = search (core_sync, list.the_sync, sendable, crosses) depth 40 fits 100000
