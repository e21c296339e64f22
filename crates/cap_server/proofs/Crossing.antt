-- Threads share a server where they share its allocator.
use denote.RattleType.{RattleType}
use denote.Param.Send.{IsSend, IsSync, Frees, sendable}
use Rattle.std.proofs.Crossing as anywhere
use Rattle.std.specs.contracts.sync.Mutex as Mutex
use Rattle.std.specs.declared.alloc.Allocator as allocator
use Rattle.std.specs.declared.clone.Clone as clone
use Rattle.cap_value.specs.declared.memory.AllocHandle as handle
use Rattle.cap_locked.proofs.Crossing as bare
use Rattle.cap_server.specs.declared.naming.Naming as naming
use Rattle.cap_server.proofs.front.Front.TheSendSync as front
use Rattle.cap_server.specs.contracts.locked.Locked as Locked
use Rattle.cap_server.specs.contracts.server.Server as Server

module _ (J A : RattleType) (n : naming.Ghosts J.Denot) (h : handle.Ghosts A.Denot) (a : allocator.Ghosts A.Denot)
    (c : clone.Ghosts A.Denot) (js : IsSend J) (jy : IsSync J) (al : IsSend A) (ay : IsSync A) (frees : Frees a a.dealloc_token) where
  locked_send : IsSend (Locked.the_row J A n h a c)
  locked_send = search (bare.locked_send, sendable) depth 40 fits 100000

  mutex_send : IsSend (Mutex.the_row (Locked.the_row J A n h a c))
  mutex_send = search (locked_send, anywhere.crosses)

  mutex_sync : IsSync (Mutex.the_row (Locked.the_row J A n h a c))
  mutex_sync = search (locked_send, anywhere.crosses)

  pub server_send : IsSend (Server.the_row J A n h a c)
  server_send = search (mutex_send, front.the_field_send, sendable) depth 40 fits 100000

  pub server_sync : IsSync (Server.the_row J A n h a c)
  server_sync = search (mutex_sync, front.the_field_sync, sendable) depth 40 fits 100000
