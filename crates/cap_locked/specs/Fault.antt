-- The faults of calls, and the seat after a call without a reply.
use Rattle.std.specs.Prelude.{◌≡◌, ◌≢◌, ◌⊎◌, ℕ, ◌+◌, ◌<◌, ◌^◌, None, List, Result, Ok, length}
use mathlib.Core.List.{IsPrefix}
use Rattle.cap_core.specs.declared.command.Command.{Command}
use Rattle.cap_core.specs.declared.event.Event.{Event}
use Rattle.cap_core.specs.declared.reply.Reply.{Reply}
use Rattle.cap_core.specs.Answer.{state}
use Rattle.cap_core.specs.RefusedFirst.{refused_first}
use Rattle.cap_history.specs.History.{IsHistory, own}
use Rattle.cap_history.specs.Seat.{SeatState, SeesMore, calls}
use Rattle.cap_locked.specs.declared.fault.CallFault.{CallFault}
use Rattle.cap_locked.specs.declared.fault.CallFault.TheVariants.{OutOfMemory, Overtaken, HistoryFull}
use Rattle.cap_locked.specs.declared.fault.HookFault.{HookFault}
use Rattle.cap_locked.specs.declared.fault.HookFault.TheVariants.{Call, Refused}

-- a fact for each of the three faults; the second depends on its count
abbrev pub MatchCallFault : CallFault → Type 0 → (ℕ → Type 0) → Type 0 → Type 0
MatchCallFault OutOfMemory memory overtaken full = memory
MatchCallFault (Overtaken front) memory overtaken full = overtaken front
MatchCallFault HistoryFull memory overtaken full = full

-- the hook refused the command, and this holds of the refusal; or the call has a fault, and that holds of it
abbrev pub MatchHookFault : {R F : Type 0} → HookFault R F → (R → Type 0) → (F → Type 0) → Type 0
MatchHookFault (Refused why) refused called = refused why
MatchHookFault (Call fault) refused called = called fault

module _ {A : Type 0} where
  -- The seat has made no call. It is unchanged where memory ran out; otherwise it has seen the history that
  -- the fault reports.
  abbrev pub LeavesSeat : CallFault → SeatState A → SeatState A → Type 0
  LeavesSeat fault old new =
      MatchCallFault fault (new ≡ old) (λ front. SeesMore old new × (length new.seen ≡ front))
      (SeesMore old new × (length new.seen + 1 ≡ 2 ^ 63))

  -- The hook was not asked. Where the call is overtaken it may have allowed this reply before.
  abbrev pub LeavesHook : {H R : Type 0} → (H → Reply A → Result Unit R → H → Type 0) → Reply A → CallFault
      → H → H → Type 0
  LeavesHook gives reply fault old new =
      MatchCallFault fault (new ≡ old) (λ front. (new ≡ old) ⊎ gives old reply (Ok tt) new) (new ≡ old)

  -- a history has just the seat's calls of the seat's events, and begins with what it had seen after its last
  pub record HasCalls (seat : SeatState A) (history : List (Event A)) : Type 0 where
    pub count : length (own seat.number history) ≡ length (calls seat)
    pub begins : IsPrefix seat.answered history

  -- Why a call has no reply, where this history stood under the lock. Out of memory: it has the seat's calls,
  -- and after it no refusal of the command is known without memory. Overtaken: it has the seat's calls, and
  -- the history is longer by now, or it has not just the seat's calls. Full: so it is.
  abbrev pub HasCauseAfter : List (Event A) → CallFault → SeatState A → Command A → Type 0
  HasCauseAfter locked fault seat command =
      IsHistory locked × MatchCallFault fault
      (HasCalls seat locked × (refused_first (state locked) command ≡ None))
      (λ front. (HasCalls seat locked × (length locked < front))
      ⊎ (length (own seat.number locked) ≢ length (calls seat)))
      (length locked + 1 ≡ 2 ^ 63)

  -- the same, whatever history stood there
  abbrev pub HasCause : CallFault → SeatState A → Command A → Type 0
  HasCause fault seat command = (locked : List (Event A)) × HasCauseAfter locked fault seat command
