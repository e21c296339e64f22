-- Databases and snapshots go from one thread to another where their allocator does.
use denote.RattleType.{RattleType}
use denote.Param.Send.{IsSend, IsSync, Frees, sendable}
use Rattle.std.proofs.CrossingOver.{crosses}
use Rattle.std.specs.declared.alloc.Allocator as allocator
use Rattle.std.specs.declared.clone.Clone as clone
use Rattle.cap_value.specs.declared.memory.AllocHandle as handle
use Rattle.cap_value.proofs.name.Name.TheSendSync as name
use Rattle.cap_table.proofs.Crossing.{table_send, table_sync}
use Rattle.cap_database.specs.contracts.database.Database as Database
use Rattle.cap_database.specs.contracts.snapshot.Snapshot as Snapshot

module _ (A : RattleType) (h : handle.Ghosts A.Denot) (a : allocator.Ghosts A.Denot) (c : clone.Ghosts A.Denot)
    (al : IsSend A) (ay : IsSync A) (frees : Frees a a.dealloc_token) where
  pub database_send : IsSend (Database.the_row A h a c)
  database_send = search (table_send, name.the_send, sendable, crosses) depth 20

  pub database_sync : IsSync (Database.the_row A h a c)
  database_sync = search (table_sync, name.the_sync, sendable, crosses) depth 20

  pub snapshot_send : IsSend (Snapshot.the_row A h a c)
  snapshot_send = search (database_send, sendable, crosses) depth 20

  pub snapshot_sync : IsSync (Snapshot.the_row A h a c)
  snapshot_sync = search (database_sync, sendable, crosses) depth 20
