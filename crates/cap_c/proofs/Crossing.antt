-- What handles have goes from one thread to another.
use denote.RattleType.{RattleType}
use denote.Enum.Declared.{shape, variants}
use denote.Param.Send.{EachSend, IsSend, IsSync, Frees, enum_send, sendable}
use Rattle.std.proofs.Crossing.{crosses, frees, send, sync}
use Rattle.std.proofs.CrossingOver.{crosses as owned}
use Rattle.std.specs.declared.alloc.Allocator as allocator
use Rattle.std.specs.declared.clone.Clone as clone
use Rattle.cap_value.specs.declared.memory.AllocHandle as handle
use Rattle.cap_value.proofs.name.Name.TheSendSync as name
use Rattle.cap_value.proofs.refusal.Refusal.TheSendSync as refusal
use Rattle.cap_row.proofs.key.Key.TheSendSync as key
use Rattle.cap_row.proofs.row.Row.TheSendSync as row
use Rattle.cap_tree.proofs.Crossing.{tree_send}
use Rattle.cap_table.proofs.row_ref.RowRef.TheSendSync as ref
use Rattle.cap_table.specs.contracts.rows.Rows as Rows
use Rattle.cap_filter.proofs.Crossing.{filter_send}
use Rattle.cap_database.proofs.Crossing.{database_send, snapshot_send}
use Rattle.cap_database.proofs.change.Change.TheSendSync as change
use Rattle.cap_database.proofs.op.Op.TheSendSync as op
use Rattle.cap_txn.proofs.Crossing.{batch_send}
use Rattle.cap_txn.proofs.item.Item.TheSendSync as item
use Rattle.cap_txn.specs.contracts.answered_call.Answer as Answer
use Rattle.cap_txn.specs.contracts.answered_call.Asked as Asked
use Rattle.cap_txn.specs.contracts.answered_call.AnsweredCall as AnsweredCall
use Rattle.cap_txn.specs.contracts.savepoint.Savepoint as Savepoint
use Rattle.cap_txn.specs.contracts.txn.Txn as Txn
use Rattle.cap_txn.specs.contracts.workspace.Workspace as Workspace
use Rattle.cap_session.proofs.Crossing.{session_send}
use Rattle.cap_codec.proofs.read.Contents.TheSendSync as contents
use Rattle.cap_apply.proofs.conflict.ConflictKind.TheSendSync as kind
use Rattle.cap_apply.proofs.report.Report.TheSendSync as report
use Rattle.cap_apply.specs.contracts.applied.Applied as Applied
use Rattle.cap_applier.specs.contracts.application.Application as Stepped
use Rattle.cap_applier.specs.contracts.applier.Applier as Applier
use Rattle.cap_applier.specs.contracts.progress.Progress as Progress
use Rattle.cap_applier.specs.contracts.row_conflict.RowConflict as RowConflict
use Rattle.cap_core.specs.contracts.capture.Capture as Capture
use Rattle.cap_connection.specs.contracts.application.Application as Application
use Rattle.cap_connection.specs.contracts.captured.Captured as Captured
use Rattle.cap_records.specs.contracts.rows.RowCursor as RowCursor
use Rattle.cap_c.specs.contracts.held.HeldBatch as HeldBatch
use Rattle.cap_c.specs.contracts.held.HeldCapture as HeldCapture
use Rattle.cap_c.specs.contracts.held.HeldSnapshot as HeldSnapshot
use Rattle.cap_c.specs.contracts.held.HeldTransaction as HeldTransaction

ruleset sends = (name.the_send, ref.the_field_send, op.the_send, op.the_field_send, key.the_send, row.the_send, refusal.the_field_send, sendable)

module _ (A : RattleType) (h : handle.Ghosts A.Denot) (a : allocator.Ghosts A.Denot) (c : clone.Ghosts A.Denot)
    (al : IsSend A) (ay : IsSync A) (frees : Frees a a.dealloc_token) where
  rows_send : IsSend (Rows.the_row A h a c)
  rows_send = search (tree_send, key.the_send, key.the_sync, row.the_send, row.the_sync, sendable) depth 20

  asked_send : EachSend (variants (Asked.the_type A a))
  asked_send = (search sends depth 20, (search sends depth 20, (search sends depth 20, (search sends depth 20, (search sends depth 20, tt)))))

  answer_send : EachSend (variants (Answer.the_type A h a c))
  answer_send = (search sends depth 20, (search sends depth 20, (search sends depth 20, (search (rows_send, sendable) depth 20, (search sends depth 20, tt)))))

  asked_field_send : IsSend (Asked.the_field A a).row
  asked_field_send = enum_send (shape (Asked.the_type A a)) asked_send

  answer_field_send : IsSend (Answer.the_field A h a c).row
  answer_field_send = enum_send (shape (Answer.the_type A h a c)) answer_send

  answered_call_send : IsSend (AnsweredCall.the_row A h a c)
  answered_call_send = search (asked_field_send, answer_field_send, sendable) depth 20

  savepoint_send : IsSend (Savepoint.the_row A h a c)
  savepoint_send = search (database_send, sendable) depth 20

  workspace_send : IsSend (Workspace.the_row A h a c)
  workspace_send = search (snapshot_send, database_send, savepoint_send, op.the_send, op.the_field_send, sendable, owned) depth 40 fits 100000

  txn_send : IsSend (Txn.the_row A h a c)
  txn_send = search (workspace_send, tree_send, item.the_send, item.the_sync, item.the_field_send, answered_call_send, sendable, owned) depth 40 fits 100000

  capture_send : IsSend (Capture.the_row A h a c)
  capture_send = search (database_send, session_send, sendable) depth 40 fits 100000

  applied_send : IsSend (Applied.the_row A h a c)
  applied_send = search (database_send, change.the_send, report.the_send, sendable, owned) depth 40 fits 100000

  progress_send : IsSend (Progress.the_row A h a c)
  progress_send = search (applied_send, sendable, owned) depth 40 fits 100000

  stepped_send : IsSend (Stepped.the_row A h a c)
  stepped_send = search (contents.the_field_send, filter_send, progress_send, sendable, owned) depth 40 fits 100000

  conflict_send : IsSend (RowConflict.the_row A a)
  conflict_send = search (kind.the_field_send, name.the_send, key.the_send, row.the_send, sendable, owned) depth 40 fits 100000

  applier_send : IsSend (Applier.the_row A h a c)
  applier_send = search (stepped_send, conflict_send, sendable, owned) depth 40 fits 100000

pub application_send : IsSend Application.the_row
application_send = search (snapshot_send, applier_send, send, sync, frees, sendable, crosses) depth 40 fits 100000

pub held_batch_send : IsSend HeldBatch.the_row
held_batch_send = search (batch_send, send, sync, frees, sendable, crosses) depth 40 fits 100000

pub held_snapshot_send : IsSend HeldSnapshot.the_row
held_snapshot_send = search (snapshot_send, send, sync, frees, sendable, crosses) depth 40 fits 100000

pub held_transaction_send : IsSend HeldTransaction.the_row
held_transaction_send = search (txn_send, send, sync, frees, sendable, crosses) depth 40 fits 100000

pub rows_handle_send : IsSend RowCursor.the_row
rows_handle_send = search (row.the_send, send, sync, frees, sendable, crosses) depth 40 fits 100000

captured_send : IsSend Captured.the_row
captured_send = search (capture_send, send, sync, frees, sendable, crosses) depth 40 fits 100000

pub held_capture_send : IsSend HeldCapture.the_row
held_capture_send = search (captured_send, sendable, crosses) depth 40 fits 100000
