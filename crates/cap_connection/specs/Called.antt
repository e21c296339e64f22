-- What a call does to the client, which is said here alone.
use Rattle.std.specs.Prelude.{◌≡◌, ⊤, ℕ, List}
use Rattle.std.specs.Global.{Global}
use Rattle.cap_core.specs.declared.command.Command.{Command}
use Rattle.cap_core.specs.declared.reply.Reply.{Reply}
use Rattle.cap_history.specs.Seat.{HasCalled}
use Rattle.cap_history.specs.Seen.{Seated}
use Rattle.cap_hub.specs.Fault.{MatchHubFault}
use Rattle.cap_hub.specs.declared.fault.HubFault.{HubFault}
use Rattle.cap_locked.specs.Fault.{HasCause, LeavesSeat}
use Rattle.cap_connection.specs.Connection.{ConnectionState}

-- The command is the client's next call in its history, and has this reply there.
pub record Called (old new : Seated Global) (command : Command Global) (reply : Reply Global) : Type 0 where
  pub book : new.book ≡ old.book
  pub called : HasCalled old.state new.state command reply

-- The command has no reply, and is no call. Where another call had the state the client is as it was. Where
-- the call has a fault, its seat is as the fault says, and the fault has its cause in the history.
pub record NotCalled (old new : Seated Global) (command : Command Global) (fault : HubFault) : Type 0 where
  pub book : new.book ≡ old.book
  pub refused : MatchHubFault fault (new ≡ old) (λ fault. LeavesSeat fault old.state new.state)
  pub cause : MatchHubFault fault ⊤ (λ fault. HasCause fault old.state command)

-- The command has this reply, and this is the text of the last reply to a command as text.
pub record Took (command : Command Global) (output : List ℕ) (old new : ConnectionState)
    (reply : Reply Global) : Type 0 where
  pub called : Called old.client new.client command reply
  pub output_is : new.output ≡ output

-- The command has no reply, and what the connection has beside its client is as it was.
pub record HasNoReply (command : Command Global) (old new : ConnectionState) (fault : HubFault) : Type 0 where
  pub not_called : NotCalled old.client new.client command fault
  pub output_is : new.output ≡ old.output
