-- The commands that apply a blob, and those that capture.
use Rattle.std.specs.Prelude.{◌≡◌, ◌⊎◌, ℕ, List, Option, Some, None}
use Rattle.std.specs.Global.{Global}
use Rattle.cap_codec.specs.declared.read.Contents.{Contents}
use Rattle.cap_apply.specs.declared.policy.Policy.{Policy}
use Rattle.cap_session.specs.declared.session_change.SessionChange.TheVariants.{Restart}
use Rattle.cap_core.specs.declared.command.Command.{Command}
use Rattle.cap_core.specs.declared.command.Command.TheVariants.{Apply, Session}
use Rattle.cap_core.specs.declared.session_command.SessionCommand.TheVariants.{Capture, Change}

-- a blob is applied
abbrev pub IsApply : Command Global → Type 0
IsApply command =
    (contents : Contents Global) × (policy : Policy) × (quiet : List ℕ) × (command ≡ Apply contents policy quiet)

-- the blob that is applied
abbrev pub blob_in : Command Global → Option (Contents Global)
blob_in (Apply contents policy quiet) = Some contents
blob_in _ = None

-- a session is captured
abbrev pub IsCapture : Command Global → Type 0
IsCapture command =
    (session : ℕ)
    × ((command ≡ Session session Capture) ⊎ (command ≡ Session session (Change Restart)))
