-- What a handle of a capture has, and the command that makes one.
use Rattle.std.specs.Prelude.{ℕ, Bool, [], Option, Some, None, if◌then◌else◌}
use Rattle.std.specs.Global.{Global}
use Rattle.cap_session.specs.declared.session_change.SessionChange.TheVariants.{Restart}
use Rattle.cap_core.specs.Capture.{CaptureState}
use Rattle.cap_core.specs.declared.command.Command.{Command}
use Rattle.cap_core.specs.declared.command.Command.TheVariants.{Session}
use Rattle.cap_core.specs.declared.session_command.SessionCommand.TheVariants.{Capture, Change}

-- the capture, where there is one
abbrev pub capture_held : Option (CaptureState Global) → CaptureState Global
capture_held (Some capture) = capture
capture_held None = record { version = 0; changes = [] }

-- a capture of a session, which is restarted then or goes on
abbrev pub capture_command : Bool → ℕ → Command Global
capture_command restarts session = Session session (if restarts then Change Restart else Capture)
