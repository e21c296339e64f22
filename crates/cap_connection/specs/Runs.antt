-- What a call of one command answers, by the reply to the command.
use Rattle.std.specs.Prelude.{◌≡◌, ℕ, List, Option, Some, None, Result, Ok, Err}
use Rattle.std.specs.Result.{result_map_both}
use Rattle.std.specs.Global.{Global}
use Rattle.cap_value.specs.declared.memory.Fault.{Fault}
use Rattle.cap_value.specs.declared.memory.Fault.TheVariants as stop
use Rattle.cap_core.specs.Outcome.{Refused as Why}
use Rattle.cap_core.specs.RefusedFirst.{refusal_in}
use Rattle.cap_core.specs.declared.command.Command.{Command}
use Rattle.cap_core.specs.declared.reply.Reply.{Reply}
use Rattle.cap_hub.specs.declared.fault.HubFault.{HubFault}
use Rattle.cap_hub.specs.declared.fault.HubFault.TheVariants.{Busy, Call}
use Rattle.cap_locked.specs.declared.fault.CallFault.TheVariants.{OutOfMemory, Overtaken, HistoryFull}
use Rattle.cap_connection.specs.Called.{HasNoReply, Took}
use Rattle.cap_connection.specs.Connection.{ConnectionState}
use Rattle.cap_connection.specs.declared.fault.ConnectionFault.{ConnectionFault}
use Rattle.cap_connection.specs.declared.fault.ConnectionFault.TheVariants as fault

-- what the fault of the client's call is told as
abbrev pub fault_of : HubFault → Fault ConnectionFault
fault_of Busy = stop.Refused fault.Busy
fault_of (Call OutOfMemory) = stop.OutOfMemory
fault_of (Call (Overtaken front)) = stop.Refused (fault.Overtaken front)
fault_of (Call HistoryFull) = stop.Refused fault.Full

-- `refusal` is which replies refuse, `output` the text of the last reply, after a reply.
module _ (refusal : Reply Global → Option Why) (output : Reply Global → List ℕ)
    (command : Command Global) (old new : ConnectionState) where
  -- The call has no value: the command is refused, or it has no reply.
  abbrev pub Stops : Fault ConnectionFault → Type 0
  Stops (stop.Refused (fault.Refused at why)) = (reply : Reply Global)
      × Took command (output reply) old new reply × (refusal reply ≡ Some (at, why))
  Stops (stop.Refused fault.Busy) = HasNoReply command old new Busy
  Stops (stop.Refused (fault.Overtaken front)) = HasNoReply command old new (Call (Overtaken front))
  Stops (stop.Refused fault.Full) = HasNoReply command old new (Call HistoryFull)
  Stops stop.OutOfMemory = HasNoReply command old new (Call OutOfMemory)
  Stops (stop.Refused why) = ⊥

  -- The call has the value of the reply, or none.
  abbrev pub RunsWith : {X : Type 0} → (Reply Global → X) → Result X (Fault ConnectionFault) → Type 0
  RunsWith value (Ok x) = (reply : Reply Global)
      × Took command (output reply) old new reply × (refusal reply ≡ None) × (value reply ≡ x)
  RunsWith value (Err why) = Stops why

-- the same of a command that changes nothing beside the client
abbrev pub Runs : {X : Type 0} → (Reply Global → X) → Command Global → ConnectionState → ConnectionState →
    Result X (Fault ConnectionFault) → Type 0
Runs value command old new = RunsWith refusal_in (λ reply. old.output) command old new value

-- the same of a command whose accepted replies have the value
abbrev pub Gives : {X : Type 0} → (Reply Global → Option X) → Command Global → ConnectionState →
    ConnectionState → Result X (Fault ConnectionFault) → Type 0
Gives value command old new result = Runs value command old new (result_map_both Some (λ why. why) result)

-- A call that takes memory for more than the command itself: where that ran out, all is as it was.
abbrev pub UnlessMemory : {X : Type 0} → (Result X (Fault ConnectionFault) → Type 0) → ConnectionState →
    ConnectionState → Result X (Fault ConnectionFault) → Type 0
UnlessMemory does old new (Ok x) = does (Ok x)
UnlessMemory does old new (Err (stop.Refused why)) = does (Err (stop.Refused why))
UnlessMemory does old new (Err stop.OutOfMemory) = new ≡ old

-- the same of the memory for a command's arguments
abbrev pub RunsMade : {X : Type 0} → (Reply Global → X) → Command Global → ConnectionState →
    ConnectionState → Result X (Fault ConnectionFault) → Type 0
RunsMade value command old new = UnlessMemory (Runs value command old new) old new

-- the call has no meaning for an argument
abbrev pub misused : {X : Type 0} → Result X (Fault ConnectionFault)
misused = Err (stop.Refused fault.Misuse)

-- Exactly arguments that have no meaning are misuse, and then the connection is as it was.
pub record Means {X : Type 0} (known : Type 0) (does : Result X (Fault ConnectionFault) → Type 0)
    (old new : ConnectionState) (result : Result X (Fault ConnectionFault)) : Type 0 where
  pub misuse : result ≡ misused → ¬ known × (new ≡ old)
  pub meant : ¬ (result ≡ misused) → known
  pub runs : ¬ (result ≡ misused) → does result

-- a text does not spell what the command needs
abbrev pub Spoils : {X : Type 0} → ConnectionFault → ConnectionState → ConnectionState →
    Result X (Fault ConnectionFault) → Type 0
Spoils why old new (Ok x) = ⊥
Spoils why old new (Err stop.OutOfMemory) = new ≡ old
Spoils why old new (Err (stop.Refused told)) = (told ≡ why) × (new ≡ old)

-- The command is made of what a text spells, or of its fault there is no command.
pub record Reads {X Y E : Type 0} (read : Result Y E) (wrong : E → ConnectionFault)
    (runs : Y → Result X (Fault ConnectionFault) → Type 0) (old new : ConnectionState)
    (result : Result X (Fault ConnectionFault)) : Type 0 where
  pub spelled : (it : Y) → read ≡ Ok it → runs it result
  pub spoiled : (why : E) → read ≡ Err why → Spoils (wrong why) old new result
