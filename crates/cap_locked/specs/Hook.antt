-- Commit hooks of calls, of which a contract does not see after which history they are asked.
use Rattle.std.specs.Prelude.{List, Result, Err}
use Rattle.cap_core.specs.declared.command.Command.{Command}
use Rattle.cap_core.specs.declared.event.Event.{Event}
use Rattle.cap_core.specs.declared.reply.Reply.{Reply}
use Rattle.cap_core.specs.Answer.{reply_of}
use Rattle.cap_history.specs.History.{IsHistory}
use Rattle.cap_locked.specs.Fault.{LeavesHook}
use Rattle.cap_locked.specs.declared.fault.CallFault.{CallFault}

module _ {A : Type 0} {H : Type 0} where
  -- the hook may be asked about the command's reply after any history
  abbrev pub CanAsk : (H → Reply A → Type 0) → H → Command A → Type 0
  CanAsk can_ask hook command =
      (history : List (Event A)) → IsHistory history → can_ask hook (reply_of history command)

  module _ {R : Type 0} where
    -- the hook was asked about the command's reply after some history, and refused
    abbrev pub HasRefused : (H → Reply A → Result Unit R → H → Type 0) → Command A → R → H → H → Type 0
    HasRefused gives command why old new =
        (history : List (Event A)) × IsHistory history × gives old (reply_of history command) (Err why) new

    -- the call has a fault: the hook was not asked, or allowed the command's reply after some history
    abbrev pub HasLeft : (H → Reply A → Result Unit R → H → Type 0) → Command A → CallFault → H → H → Type 0
    HasLeft gives command fault old new =
        (history : List (Event A)) × IsHistory history
        × LeavesHook gives (reply_of history command) fault old new
