-- Tables and their rows go from one thread to another where their allocator does.
use denote.RattleType.{RattleType}
use denote.Param.Send.{IsSend, IsSync, Frees, sendable}
use Rattle.std.specs.declared.alloc.Allocator as allocator
use Rattle.std.specs.declared.clone.Clone as clone
use Rattle.cap_value.specs.declared.memory.AllocHandle as handle
use Rattle.cap_row.proofs.key.Key.TheSendSync as key
use Rattle.cap_row.proofs.row.Row.TheSendSync as row
use Rattle.cap_row.proofs.schema.Schema.TheSendSync as schema
use Rattle.cap_tree.proofs.Crossing.{tree_send, tree_sync}
use Rattle.cap_table.specs.contracts.rows.Rows as Rows
use Rattle.cap_table.specs.contracts.table.Table as Table

module _ (A : RattleType) (h : handle.Ghosts A.Denot) (a : allocator.Ghosts A.Denot) (c : clone.Ghosts A.Denot)
    (al : IsSend A) (ay : IsSync A) (frees : Frees a a.dealloc_token) where
  pub table_send : IsSend (Table.the_row A h a c)
  table_send = search (tree_send, key.the_send, key.the_sync, row.the_send, row.the_sync, schema.the_send, sendable) depth 20

  pub table_sync : IsSync (Table.the_row A h a c)
  table_sync = search (tree_sync, key.the_send, key.the_sync, row.the_send, row.the_sync, schema.the_sync, sendable) depth 20
