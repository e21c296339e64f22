-- The history after which a hook was asked is some history.
use Rattle.std.proofs.Common.{List, Result, Ok, Err}
use Rattle.std.specs.Prelude.{⊤, IfErr}
use Rattle.cap_core.specs.declared.command.Command.{Command}
use Rattle.cap_core.specs.declared.event.Event.{Event}
use Rattle.cap_core.specs.declared.reply.Reply.{Reply}
use Rattle.cap_core.specs.Answer.{reply_of}
use Rattle.cap_history.specs.History.{IsHistory}
use Rattle.cap_history.specs.Seat.{SeatState}
use Rattle.cap_locked.specs.Fault.{HasCause, HasCauseAfter, LeavesHook, MatchHookFault}
use Rattle.cap_locked.specs.Hook.{HasLeft, HasRefused}
use Rattle.cap_locked.specs.declared.fault.CallFault.{CallFault}
use Rattle.cap_locked.specs.declared.fault.HookFault.{HookFault}
use Rattle.cap_locked.specs.declared.fault.HookFault.TheVariants.{Call, Refused}

module _ {A : Type 0} {H : Type 0} {R : Type 0} {X : Type 0} where
  pub left_after_some : (r : Result X (HookFault R CallFault)) (gives : H → Reply A → Result Unit R → H → Type 0) (history : List (Event A)) (command : Command A) (old new : H) → IsHistory history
      → IfErr r (λ fault. MatchHookFault fault (λ why. gives old (reply_of history command) (Err why) new) (λ fault. LeavesHook gives (reply_of history command) fault old new))
      → IfErr r (λ fault. MatchHookFault fault (λ why. HasRefused gives command why old new) (λ fault. HasLeft gives command fault old new))
  left_after_some (Ok x) gives history command old new is left = tt
  left_after_some (Err (Refused why)) gives history command old new is left = (history, is, left)
  left_after_some (Err (Call fault)) gives history command old new is left = (history, is, left)

module _ {A : Type 0} {R : Type 0} {X : Type 0} where
  pub caused_after_some : (r : Result X (HookFault R CallFault)) (history : List (Event A)) (seat : SeatState A) (command : Command A)
      → IfErr r (λ fault. MatchHookFault fault (λ why. ⊤) (λ fault. HasCauseAfter history fault seat command))
      → IfErr r (λ fault. MatchHookFault fault (λ why. ⊤) (λ fault. HasCause fault seat command))
  caused_after_some (Ok x) history seat command cause = tt
  caused_after_some (Err (Refused why)) history seat command cause = tt
  caused_after_some (Err (Call fault)) history seat command cause = (history, cause)
