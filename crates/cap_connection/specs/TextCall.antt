-- A command as text, and what becomes of the connection.
use Rattle.std.specs.Prelude.{◌≡◌, Bool, ℕ, List, None, Result, Err}
use Rattle.std.specs.Global.{Global}
use Rattle.cap_value.specs.declared.memory.Fault.{Fault}
use Rattle.cap_value.specs.declared.memory.Fault.TheVariants as stop
use Rattle.cap_core.specs.Past.{is_accepted}
use Rattle.cap_script.specs.ReplyText.{reply_text}
use Rattle.cap_script.specs.declared.line.Line.{Line}
use Rattle.cap_connection.specs.Connection.{ConnectionState}
use Rattle.cap_connection.specs.OneCommand.{IsNotOne, SpellsOne}
use Rattle.cap_connection.specs.Runs.{RunsWith, UnlessMemory}
use Rattle.cap_connection.specs.declared.fault.ConnectionFault.{ConnectionFault}
use Rattle.cap_connection.specs.declared.fault.ConnectionFault.TheVariants as fault

-- The line's command has a reply, which is printed, also where it is a refusal. The answer is whether it is
-- none.
abbrev pub RunsLine : Line Global → ConnectionState → ConnectionState →
    Result Bool (Fault ConnectionFault) → Type 0
RunsLine line old new = UnlessMemory
    (RunsWith (λ reply. None) (λ reply. reply_text line reply) line.command old new is_accepted) old new

-- The text is one command, which runs; or it is not one.
abbrev pub CallsText : List ℕ → ConnectionState → ConnectionState →
    Result Bool (Fault ConnectionFault) → Type 0
CallsText text old new (Err stop.OutOfMemory) = new ≡ old
CallsText text old new (Err (stop.Refused (fault.NoCommand why))) = IsNotOne text why × (new ≡ old)
CallsText text old new result = (line : Line Global) × SpellsOne line text × RunsLine line old new result
