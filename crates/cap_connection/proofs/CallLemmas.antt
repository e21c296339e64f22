-- Calls without a value, and a text that is one command.
use Rattle.std.proofs.Common.{◌≡◌, Bool, ℕ, List, Option, None, refl, subst, sym}
use Rattle.std.specs.Prelude.{⊤, IfErr, Result, Ok, Err}
use Rattle.std.specs.Global.{Global}
use Rattle.cap_value.specs.declared.memory.Fault.{Fault}
use Rattle.cap_value.specs.declared.memory.Fault.TheVariants as stop
use Rattle.cap_core.specs.Outcome.{Refused as Why}
use Rattle.cap_core.specs.Past.{is_accepted}
use Rattle.cap_core.specs.declared.command.Command.{Command}
use Rattle.cap_core.specs.declared.reply.Reply.{Reply}
use Rattle.cap_history.specs.Seen.{Seated}
use Rattle.cap_hub.specs.Fault.{MatchHubFault}
use Rattle.cap_hub.specs.declared.fault.HubFault.{HubFault}
use Rattle.cap_hub.specs.declared.fault.HubFault.TheVariants.{Busy, Call}
use Rattle.cap_locked.specs.Fault.{HasCause, LeavesSeat, MatchHookFault}
use Rattle.cap_locked.specs.declared.fault.CallFault.TheVariants.{OutOfMemory, Overtaken, HistoryFull}
use Rattle.cap_locked.specs.declared.fault.HookFault.{HookFault}
use Rattle.cap_locked.specs.declared.fault.HookFault.TheVariants as hook
use Rattle.cap_script.specs.ReplyText.{reply_text}
use Rattle.cap_script.specs.declared.line.Line.{Line}
use Rattle.cap_connection.specs.Called.{HasNoReply}
use Rattle.cap_connection.specs.Connection.{ConnectionState}
use Rattle.cap_connection.specs.OneCommand.{SpellsOne}
use Rattle.cap_connection.specs.Runs.{RunsWith, Stops, UnlessMemory, fault_of}
use Rattle.cap_connection.specs.TextCall.{CallsText, RunsLine}
use Rattle.cap_connection.specs.declared.fault.ConnectionFault.{ConnectionFault}
use Rattle.cap_connection.specs.declared.fault.ConnectionFault.TheVariants as fault

-- where memory ran out the connection is as it was
as_it_was : (asked : Command Global) (old new : ConnectionState) → HasNoReply asked old new (Call OutOfMemory) → new ≡ old
as_it_was asked old new lacks = λ i. record {
  client = record { book = lacks.not_called.book i; state = lacks.not_called.refused i };
  output = lacks.output_is i;
}

module _ (refusal : Reply Global → Option Why) (output : Reply Global → List ℕ) (asked : Command Global) (old new : ConnectionState) where
  -- the command has no reply
  pub stops : (why : HubFault) → HasNoReply asked old new why → Stops refusal output asked old new (fault_of why)
  stops Busy lacks = lacks
  stops (Call OutOfMemory) lacks = lacks
  stops (Call (Overtaken front)) lacks = lacks
  stops (Call HistoryFull) lacks = lacks

  -- what is said of want of memory is no less than that all is as it was
  pub unless_memory : {X : Type 0} (value : Reply Global → X) (result : Result X (Fault ConnectionFault)) → RunsWith refusal output asked old new value result
      → UnlessMemory (λ r. RunsWith refusal output asked old new value r) old new result
  unless_memory value (Ok x) runs = runs
  unless_memory value (Err (stop.Refused why)) runs = runs
  unless_memory value (Err stop.OutOfMemory) runs = as_it_was asked old new runs

-- a line's command has no reply, by what the client's call says of that
pub line_stops : {R X : Type 0} (line : Line Global) (client after : Seated Global) (output : List ℕ) (old : ConnectionState) (answer : Result X (HookFault R HubFault)) (why : HubFault)
    (told : Fault ConnectionFault) → record { client = client; output = output } ≡ old → answer ≡ Err (hook.Call why) → told ≡ fault_of why → after.book ≡ client.book
    → IfErr answer (λ fault. MatchHookFault fault (λ why. after ≡ client) (λ fault. MatchHubFault fault (after ≡ client) (λ fault. LeavesSeat fault client.state after.state)))
    → IfErr answer (λ fault. MatchHookFault fault (λ why. ⊤) (λ fault. MatchHubFault fault ⊤ (λ fault. HasCause fault client.state line.command)))
    → RunsLine line old (record { client = after; output = output }) (Err told)
line_stops line client after output old answer why told old_is is told_is book refused cause =
    let from : ConnectionState = record { client = client; output = output } in
    let to : ConnectionState = record { client = after; output = output } in
    let none : HasNoReply line.command from to why = record { not_called = record { book = book; refused = rw is at refused; cause = rw is at cause }; output_is = refl } in
    let runs : RunsLine line from to (Err (fault_of why)) = unless_memory (λ reply. None) (λ reply. reply_text line reply) line.command from to is_accepted (Err (fault_of why))
    (stops (λ reply. None) (λ reply. reply_text line reply) line.command from to why none) in
    subst (λ (s : ConnectionState). RunsLine line s to (Err told)) old_is (subst (λ (t : Fault ConnectionFault). RunsLine line from to (Err t)) (sym told_is) runs)

pub calls_text : (text : List ℕ) (line : Line Global) (old new : ConnectionState) → SpellsOne line text
    → (result : Result Bool (Fault ConnectionFault)) → RunsLine line old new result → CallsText text old new result
calls_text text line old new spells (Ok accepted) runs = (line, spells, runs)
calls_text text line old new spells (Err stop.OutOfMemory) runs = runs
calls_text text line old new spells (Err (stop.Refused fault.Busy)) runs = (line, spells, runs)
calls_text text line old new spells (Err (stop.Refused (fault.Overtaken front))) runs = (line, spells, runs)
calls_text text line old new spells (Err (stop.Refused fault.Full)) runs = (line, spells, runs)
calls_text text line old new spells (Err (stop.Refused (fault.Refused at why))) runs = (line, spells, runs)
calls_text text line old new spells (Err (stop.Refused fault.Misuse)) runs = absurd runs
calls_text text line old new spells (Err (stop.Refused (fault.NoFilter why))) runs = absurd runs
calls_text text line old new spells (Err (stop.Refused (fault.NoCommand why))) runs = absurd runs
