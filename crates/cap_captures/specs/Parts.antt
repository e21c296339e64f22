-- A session that is captured in two parts.
use Rattle.std.specs.Prelude.{◌≡◌, ◌⊎◌, ℕ, ◌+◌, ◌<◌, ◌^◌, true, Option, Some, None, List, [], ◌∷◌, ◌++◌, Ok}
use Rattle.std.specs.Prelude.{length, map, reverse}
use Rattle.std.specs.Option.{IsSome}
use Rattle.cap_database.specs.Tables.{AreRising, Tables}
use Rattle.cap_changes.specs.Group.{TableChanges}
use Rattle.cap_codec.specs.declared.read.Contents.TheVariants.{Changes}
use Rattle.cap_session.specs.Sessions.{session_numbered}
use Rattle.cap_txn.specs.Batch.{BatchState}
use Rattle.cap_apply.specs.Applied.{AppliedState}
use Rattle.cap_apply.specs.Apply.{apply}
use Rattle.cap_apply.specs.declared.policy.Policy.{Policy}
use Rattle.cap_session.specs.declared.session_change.SessionChange.TheVariants.{Enable, Restart}
use Rattle.cap_core.specs.declared.command.Command.{Command}
use Rattle.cap_core.specs.declared.command.Command.TheVariants.{Commit, Session}
use Rattle.cap_core.specs.declared.session_command.SessionCommand.TheVariants.{Capture, Change}
use Rattle.cap_core.specs.declared.event.Event.{Event}
use Rattle.cap_core.specs.Answer.{IsLegal, IsLegalPast, State, event_by, reply_of, state}
use Rattle.cap_core.specs.History.{version}
use Rattle.cap_core.specs.Past.{HasRoom, Past, is_accepted}
use Rattle.cap_core_laws.specs.Restarts.{AppliesAll, HoldsFirst, captures}
use Rattle.cap_core.specs.Table.{BlobsFit}
use Rattle.cap_captures.specs.Captures.{HasCaptureOver, capture_over}
use Rattle.cap_captures.specs.declared.parts.InParts.{InParts}

-- something is made where P holds, and then Q holds of it; else nothing is made
abbrev pub MadeWhere : {T : Type 0} → Type 0 → Option T → (T → Type 0) → Type 0
MadeWhere P None Q = P → ⊥
MadeWhere P (Some made) Q = P × Q made

module _ {A : Type 0} where
  -- The history is legal, each of its blobs fits its tables, and it leaves this core.
  pub record IsLeftBy (h : List (Event A)) (core : State A) : Type 0 where
    pub legal : IsLegal h
    pub fits : BlobsFit h
    pub is : state h ≡ core

  abbrev pub commands_of : List (Event A) → List (Command A)
  commands_of events = map (λ event. event.command) events

  -- the commands that enable a session, restart it and capture it
  abbrev pub enabling : ℕ → Command A
  enabling session = Session session (Change (Enable (Some true)))

  abbrev pub restarting : ℕ → Command A
  restarting session = Session session (Change Restart)

  abbrev pub capturing : ℕ → Command A
  capturing session = Session session Capture

  abbrev pub IsCommit : Command A → Type 0
  IsCommit command = (batch : BatchState A) × (command ≡ Commit batch)

  -- a capture of a session, or a restart, which captures it too
  abbrev pub IsCapture : Command A → Type 0
  IsCapture command = (session : ℕ) × ((command ≡ capturing session) ⊎ (command ≡ restarting session))

  -- Each of the commands, one after the other after the history, has room in it and is not refused.
  unfoldable pub AreAccepted : List (Event A) → List (Command A) → Type 0
  AreAccepted h [] = Unit {0}
  AreAccepted h (command ∷ commands) =
      HasRoom (length h) × (is_accepted (reply_of h command) ≡ true)
      × AreAccepted (h ++ event_by 0 command (reply_of h command) ∷ []) commands

  -- The session is live after the history. Both commands are commits, the first is accepted, and the second
  -- after it. The history has room for seven more events: the longer way to a capture has as many.
  pub record CanBeInParts (h : List (Event A)) (session : ℕ) (first second : Command A) : Type 0 where
    pub live : IsSome (session_numbered (state h).sessions session)
    pub commits : IsCommit first × IsCommit second
    pub first_accepted : is_accepted (reply_of h first) ≡ true
    pub second_accepted : is_accepted (reply_of (h ++ event_by 0 first (reply_of h first) ∷ []) second) ≡ true
    pub room : length h + 7 < 2 ^ 63

  -- After the history the session is enabled and restarted. Then each commit is carried out, and the session
  -- restarted after it. What is made has the concatenation of the two captures and the one capture over both,
  -- which has the version of the second. The concatenation has of each row what the one capture has, and
  -- leaves of a database with the first images what the two captures leave of it.
  pub record IsInParts (h : List (Event A)) (session : ℕ) (first second : Command A) (made : InParts A)
      : Type 0 where
    pub start : Past A
    pub later : List (Event A)
    pub event : Event A
    pub begun : commands_of start ≡ restarting session ∷ enabling session ∷ commands_of (reverse h)
    pub then : commands_of (event ∷ later) ≡ restarting session ∷ second ∷ restarting session ∷ first ∷ []
    pub legal : IsLegalPast (event ∷ later ++ start)
    pub can : CanBeInParts h session first second
    pub groups : List (TableChanges A)
    pub changeset : made.together ≡ Changes groups
    pub whole : made.whole.changes ≡ capture_over session (event ∷ later) start
    pub whole_version : made.whole.version ≡ version (later ++ start)
    pub captured : HasCaptureOver session (event ∷ later) start groups
    pub applies : (policy : Policy) (database : Tables A) → AreRising database
        → HoldsFirst database session (event ∷ later) start
        → (left : AppliedState A) × (apply database made.together policy ≡ Ok left)
        × AppliesAll policy (captures session (event ∷ later) start) database left.database
