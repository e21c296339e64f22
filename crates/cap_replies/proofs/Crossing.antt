-- Lines go from one thread to another where their allocator does.
use denote.RattleType.{RattleType}
use denote.Param.Send.{IsSend, IsSync, Frees, sendable}
use Rattle.std.specs.declared.alloc.Allocator as allocator
use Rattle.std.specs.declared.clone.Clone as clone
use Rattle.cap_value.specs.declared.memory.AllocHandle as handle
use Rattle.cap_core.proofs.Crossing.{command_field_sync}
use Rattle.cap_script.proofs.Crossing.{show_field_sync}
use Rattle.cap_replies.proofs.run_line.ReplyForm.TheSendSync as form
use Rattle.cap_replies.specs.contracts.run_line.RunLine as RunLine

module _ (A : RattleType) (h : handle.Ghosts A.Denot) (a : allocator.Ghosts A.Denot) (c : clone.Ghosts A.Denot)
    (al : IsSend A) (ay : IsSync A) (frees : Frees a a.dealloc_token) where
  pub run_line_sync : IsSync (RunLine.the_row A h a c)
  run_line_sync = search (command_field_sync, show_field_sync, form.the_field_sync, sendable) depth 40 fits 100000
