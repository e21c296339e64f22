-- Lines go from one thread to another where their allocator does.
use denote.RattleType.{RattleType}
use denote.Enum.Declared.{shape, variants}
use denote.Param.Send.{EachSend, EachSync, IsSend, IsSync, Frees, enum_send, enum_sync, sendable}
use Rattle.std.specs.declared.alloc.Allocator as allocator
use Rattle.std.specs.declared.clone.Clone as clone
use Rattle.cap_value.specs.declared.memory.AllocHandle as handle
use Rattle.cap_value.proofs.name.Name.TheSendSync as name
use Rattle.cap_table.proofs.row_ref.RowRef.TheSendSync as ref
use Rattle.cap_database.proofs.op.Op.TheSendSync as op
use Rattle.cap_row.proofs.row.Row.TheSendSync as row
use Rattle.cap_filter.proofs.Crossing.{filter_send, filter_sync}
use Rattle.cap_codec.proofs.key_flags.KeyFlags.TheSendSync as flags
use Rattle.cap_codec.proofs.read.Contents.TheSendSync as contents
use Rattle.cap_apply.proofs.policy.Answer.TheSendSync as answer
use Rattle.cap_apply.proofs.report.Report.TheSendSync as report
use Rattle.cap_applier.proofs.numbering.Numbering.TheSendSync as numbering
use Rattle.cap_txn.specs.contracts.answered_call.Asked as Asked
use Rattle.cap_core.proofs.Crossing.{command_field_send, command_field_sync}
use Rattle.cap_script.proofs.line.Detail.TheSendSync as detail
use Rattle.cap_script.specs.contracts.line.Line as Line
use Rattle.cap_script.specs.contracts.line.Show as Show
use Rattle.cap_script.specs.contracts.step.Step as Step

ruleset sends = (name.the_send, ref.the_field_send, op.the_field_send, op.the_send, flags.the_field_send, numbering.the_send, report.the_send, detail.the_field_send, sendable)

ruleset syncs = (name.the_sync, ref.the_field_sync, op.the_field_sync, op.the_sync, flags.the_field_sync, numbering.the_sync, report.the_sync, detail.the_field_sync, sendable)

module _ (A : RattleType) (h : handle.Ghosts A.Denot) (a : allocator.Ghosts A.Denot) (c : clone.Ghosts A.Denot)
    (al : IsSend A) (ay : IsSync A) (frees : Frees a a.dealloc_token) where
  asked_send : EachSend (variants (Asked.the_type A a))
  asked_send = (search sends depth 20, (search sends depth 20, (search sends depth 20, (search sends depth 20, (search sends depth 20, tt)))))

  asked_sync : EachSync (variants (Asked.the_type A a))
  asked_sync = (search syncs depth 20, (search syncs depth 20, (search syncs depth 20, (search syncs depth 20, (search syncs depth 20, tt)))))

  asked_field_send : IsSend (Asked.the_field A a).row
  asked_field_send = enum_send (shape (Asked.the_type A a)) asked_send

  asked_field_sync : IsSync (Asked.the_field A a).row
  asked_field_sync = enum_sync (shape (Asked.the_type A a)) asked_sync

  step_send : EachSend (variants (Step.the_type A h a c))
  step_send = (
    search sends depth 20,
    (search (asked_field_send, sendable) depth 20, (search sends depth 20, (search sends depth 20, (search (contents.the_field_send, filter_send, sendable) depth 20, (search (answer.the_field_send, sendable) depth 20, (search (row.the_send, sendable) depth 20, tt)))))),
  )

  step_sync : EachSync (variants (Step.the_type A h a c))
  step_sync = (
    search syncs depth 20,
    (search (asked_field_sync, sendable) depth 20, (search syncs depth 20, (search syncs depth 20, (search (contents.the_field_sync, filter_sync, sendable) depth 20, (search (answer.the_field_sync, sendable) depth 20, (search (row.the_sync, sendable) depth 20, tt)))))),
  )

  step_field_send : IsSend (Step.the_field A h a c).row
  step_field_send = enum_send (shape (Step.the_type A h a c)) step_send

  step_field_sync : IsSync (Step.the_field A h a c).row
  step_field_sync = enum_sync (shape (Step.the_type A h a c)) step_sync

  show_send : EachSend (variants (Show.the_type A h a c))
  show_send = (
    search sends depth 20,
    (search sends depth 20, (search sends depth 20, (search (step_field_send, sendable) depth 20, (search sends depth 20, (search sends depth 20, (search sends depth 20, (search sends depth 20, (search sends depth 20, (search sends depth 20, tt))))))))),
  )

  show_sync : EachSync (variants (Show.the_type A h a c))
  show_sync = (
    search syncs depth 20,
    (search syncs depth 20, (search syncs depth 20, (search (step_field_sync, sendable) depth 20, (search syncs depth 20, (search syncs depth 20, (search syncs depth 20, (search syncs depth 20, (search syncs depth 20, (search syncs depth 20, tt))))))))),
  )

  pub show_field_send : IsSend (Show.the_field A h a c).row
  show_field_send = enum_send (shape (Show.the_type A h a c)) show_send

  pub show_field_sync : IsSync (Show.the_field A h a c).row
  show_field_sync = enum_sync (shape (Show.the_type A h a c)) show_sync

  pub line_send : IsSend (Line.the_row A h a c)
  line_send = search (command_field_send, show_field_send, sendable) depth 30 fits 100000

  pub line_sync : IsSync (Line.the_row A h a c)
  line_sync = search (command_field_sync, show_field_sync, sendable) depth 30 fits 100000
