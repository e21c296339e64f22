-- Batches go from one thread to another where their allocator does.
use denote.RattleType.{RattleType}
use denote.Enum.Enum.{Enum}
use denote.Enum.Declared.{shape, variants}
use denote.Param.Send.{EachSend, EachSync, IsSend, IsSync, Frees, enum_send, enum_sync, recorded_send, recorded_sync, sendable}
use Rattle.std.proofs.CrossingOver.{crosses}
use Rattle.std.specs.declared.alloc.Allocator as allocator
use Rattle.std.specs.declared.clone.Clone as clone
use Rattle.cap_value.specs.declared.memory.AllocHandle as handle
use Rattle.cap_value.proofs.name.Name.TheSendSync as name
use Rattle.cap_value.proofs.refusal.Refusal.TheSendSync as refusal
use Rattle.cap_row.proofs.key.Key.TheSendSync as key
use Rattle.cap_row.proofs.row.Row.TheSendSync as row
use Rattle.cap_tree.proofs.Crossing.{tree_send, tree_sync}
use Rattle.cap_database.proofs.Crossing.{snapshot_send, snapshot_sync}
use Rattle.cap_database.proofs.op.Op.TheSendSync as op
use Rattle.cap_table.proofs.row_ref.RowRef.TheSendSync as ref
use Rattle.cap_txn.proofs.item.Item.TheSendSync as item
use Rattle.cap_txn.specs.contracts.answered_call.Answer as Answer
use Rattle.cap_txn.specs.contracts.answered_call.Asked as Asked
use Rattle.cap_txn.specs.contracts.answered_call.AnsweredCall as AnsweredCall
use Rattle.cap_table.specs.contracts.rows.Rows as Rows
use Rattle.cap_txn.specs.contracts.batch.Batch as Batch
use Rattle.cap_txn.specs.contracts.read_set.ReadSet as ReadSet

ruleset sends = (name.the_send, ref.the_field_send, op.the_send, op.the_field_send, key.the_send, row.the_send, refusal.the_field_send, sendable)

ruleset syncs = (name.the_sync, ref.the_field_sync, op.the_sync, op.the_field_sync, key.the_sync, row.the_sync, refusal.the_field_sync, sendable)

module _ (A : RattleType) (h : handle.Ghosts A.Denot) (a : allocator.Ghosts A.Denot) (c : clone.Ghosts A.Denot)
    (al : IsSend A) (ay : IsSync A) (frees : Frees a a.dealloc_token) where
  rows_send : IsSend (Rows.the_row A h a c)
  rows_send = search (tree_send, key.the_send, key.the_sync, row.the_send, row.the_sync, sendable) depth 20

  rows_sync : IsSync (Rows.the_row A h a c)
  rows_sync = search (tree_sync, key.the_send, key.the_sync, row.the_send, row.the_sync, sendable) depth 20

  asked_send : EachSend (variants (Asked.the_type A a))
  asked_send = (search sends depth 20, (search sends depth 20, (search sends depth 20, (search sends depth 20, (search sends depth 20, tt)))))

  asked_sync : EachSync (variants (Asked.the_type A a))
  asked_sync = (search syncs depth 20, (search syncs depth 20, (search syncs depth 20, (search syncs depth 20, (search syncs depth 20, tt)))))

  answer_send : EachSend (variants (Answer.the_type A h a c))
  answer_send = (search sends depth 20, (search sends depth 20, (search sends depth 20, (search (rows_send, sendable) depth 20, (search sends depth 20, tt)))))

  answer_sync : EachSync (variants (Answer.the_type A h a c))
  answer_sync = (search syncs depth 20, (search syncs depth 20, (search syncs depth 20, (search (rows_sync, sendable) depth 20, (search syncs depth 20, tt)))))

  asked_field_send : IsSend (Asked.the_field A a).row
  asked_field_send = enum_send (shape (Asked.the_type A a)) asked_send

  asked_field_sync : IsSync (Asked.the_field A a).row
  asked_field_sync = enum_sync (shape (Asked.the_type A a)) asked_sync

  answer_field_send : IsSend (Answer.the_field A h a c).row
  answer_field_send = enum_send (shape (Answer.the_type A h a c)) answer_send

  answer_field_sync : IsSync (Answer.the_field A h a c).row
  answer_field_sync = enum_sync (shape (Answer.the_type A h a c)) answer_sync

  answered_call_send : IsSend (AnsweredCall.the_row A h a c)
  answered_call_send = search (asked_field_send, answer_field_send, sendable) depth 20

  answered_call_sync : IsSync (AnsweredCall.the_row A h a c)
  answered_call_sync = search (asked_field_sync, answer_field_sync, sendable) depth 20

  read_set_send : IsSend (ReadSet.the_row A h a c)
  read_set_send = search (snapshot_send, item.the_field_send, item.the_send, answered_call_send, sendable, crosses) depth 40 fits 100000

  read_set_sync : IsSync (ReadSet.the_row A h a c)
  read_set_sync = search (snapshot_sync, item.the_field_sync, item.the_sync, answered_call_sync, sendable, crosses) depth 40 fits 100000

  pub batch_send : IsSend (Batch.the_row A h a c)
  batch_send = search (read_set_send, op.the_send, op.the_field_send, sendable, crosses) depth 40 fits 100000

  pub batch_sync : IsSync (Batch.the_row A h a c)
  batch_sync = search (read_set_sync, op.the_sync, op.the_field_sync, sendable, crosses) depth 40 fits 100000
