-- Why a call has no reply.
use Rattle.std.proofs.Common.{◌≡◌, ◌≢◌, ◌⊎◌, ◌<◌, inl, inr, ℕ, Result, Ok, Err, List, length}
use Rattle.std.specs.Prelude.{IfErr}
use mathlib.Core.List.{IsPrefix}
use Rattle.cap_core.specs.declared.command.Command.{Command}
use Rattle.cap_core.specs.declared.event.Event.{Event}
use Rattle.cap_history.specs.History.{own}
use Rattle.cap_history.specs.Seat.{SeatState, calls}
use Rattle.cap_locked.specs.Fault.{HasCalls, HasCause, HasCauseAfter}
use Rattle.cap_locked.specs.declared.fault.CallFault.{CallFault}
use Rattle.cap_locked.proofs.Counting.{same_or_other}

module _ {A : Type 0} where
  -- a longer history, or other calls than are counted
  pub overtaken_after : (seat : SeatState A) (locked : List (Event A)) (front : ℕ) → (length (own seat.number locked) ≡ length (calls seat) → IsPrefix seat.answered locked)
      → (length locked < front) ⊎ (length (own seat.number locked) ≢ length (calls seat))
      → (HasCalls seat locked × (length locked < front)) ⊎ (length (own seat.number locked) ≢ length (calls seat))
  overtaken_after seat locked front begins (inr off) = inr off
  overtaken_after seat locked front begins (inl less) = elim (same_or_other (length (own seat.number locked)) (length (calls seat))) [
    | inl same ↦ inl (record { count = same; begins = begins same }, less)
    | inr off ↦ inr off
  ]

  -- the history under the lock is some history
  pub cause_of : {X : Type 0} (r : Result X CallFault) (locked : List (Event A)) (seat : SeatState A) (command : Command A)
      → IfErr r (λ fault. HasCauseAfter locked fault seat command) → IfErr r (λ fault. HasCause fault seat command)
  cause_of (Ok x) locked seat command cause = tt
  cause_of (Err fault) locked seat command cause = (locked, cause)
