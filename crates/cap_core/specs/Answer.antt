-- The state that a history leaves, the reply to a command after it, and which histories are legal.
use Rattle.std.specs.Prelude.{◌≡◌, ℕ, Option, Some, None, Result, Ok, Err, Bool, List, [], ◌∷◌, ◌+◌, ◌||◌}
use Rattle.std.specs.Prelude.{length, reverse, is_some, nat_eq, nat_le, nat_lt}
use Rattle.std.specs.Prelude.{if◌then◌else◌}
use Rattle.std.specs.List.{list_all}
use Rattle.std.specs.Map.{keys_of}
use Rattle.std.specs.Option.{unwrap_or}
use Rattle.cap_value.specs.Bytes.{bytes_cmp}
use Rattle.cap_value.specs.declared.refusal.Refusal.{Refusal}
use Rattle.cap_value.specs.declared.refusal.Refusal.TheVariants.{NoDatabase, NoSession, TooMany}
use Rattle.cap_tree.specs.Tree.{get}
use Rattle.cap_database.specs.Snapshot.{SnapshotState}
use Rattle.cap_database.specs.Tables.{Tables}
use Rattle.cap_codec.specs.declared.read.Contents.{Contents}
use Rattle.cap_apply.specs.Report.{ReportState}
use Rattle.cap_apply.specs.declared.policy.Policy.{Policy}
use Rattle.cap_compare.specs.declared.difference.Difference.{Difference}
use Rattle.cap_session.specs.Session.{SessionState, stored}
use Rattle.cap_session.specs.declared.session_change.SessionChange.{SessionChange}
use Rattle.cap_session.specs.declared.session_change.SessionChange.TheVariants.{Enable, Indirect, Restart}
use Rattle.cap_session.specs.Sessions.{NumberedSessions, session_numbered}
use Rattle.cap_core.specs.declared.command.Command.{Command}
use Rattle.cap_core.specs.declared.command.Command.TheVariants as command
use Rattle.cap_core.specs.declared.session_command.SessionCommand.{SessionCommand}
use Rattle.cap_core.specs.declared.session_command.SessionCommand.TheVariants.{Capture as CaptureAsked}
use Rattle.cap_core.specs.declared.session_command.SessionCommand.TheVariants.{Change, Diff, IsEmpty}
use Rattle.cap_core.specs.declared.event.Event.{Event}
use Rattle.cap_core.specs.declared.reply.Reply.{Reply}
use Rattle.cap_core.specs.declared.reply.Reply.TheVariants.{Done, Written, Applied, Session, Snapshot, Flag}
use Rattle.cap_core.specs.declared.reply.Reply.TheVariants.{Capture, Databases, Dump, Refused, Sessions}
use Rattle.cap_core.specs.declared.reply.Reply.TheVariants.{Tables as TablesListed}
use Rattle.cap_core.specs.Capture.{session_changes}
use Rattle.cap_core.specs.Diff.{diff}
use Rattle.cap_core.specs.Flags.{sessions_made}
use Rattle.cap_core.specs.History.{Databases as Saved, main, saved, version}
use Rattle.cap_core.specs.Listed.{listed_sessions, listed_tables}
use Rattle.cap_core.specs.Outcome.{Effect, Refused as Why, outcome}
use Rattle.cap_core.specs.Past.{Past}
use Rattle.cap_core.specs.Session.{sessions}

-- The number of events, the tables, the version, the saved databases under their names, which rise, the
-- number of sessions made, and the live sessions under their numbers, which rise.
pub record State (A : Type 0) : Type 0 where
  pub events : ℕ
  pub main : Tables A
  pub version : ℕ
  pub saved : Saved A
  pub sessions_made : ℕ
  pub sessions : NumberedSessions A

module _ {A : Type 0} where
  -- the tables with their version
  abbrev pub snapshot_of : State A → SnapshotState A
  snapshot_of state = record { version = state.version; database = state.main }

  abbrev pub refusal : Refusal → Reply A
  refusal why = Refused None why

  -- ---- the reply to each command

  -- where a blob was applied, what became of its changes goes with the version
  abbrev pub version_reply : ℕ → Option ReportState → Reply A
  version_reply version None = Written version
  version_reply version (Some report) = Applied version report

  -- the reply to a command that writes
  abbrev pub write_reply : State A → Result (Effect A) Why → Reply A
  write_reply state (Ok effect) = version_reply (state.version + 1) effect.report
  write_reply state (Err why) = Refused why.0 why.1

  -- a name that is there is saved anew
  abbrev pub has_room_for : Saved A → List ℕ → Bool
  has_room_for saved name = is_some (get bytes_cmp saved name) || nat_lt (length saved) 16

  abbrev pub save_reply : Saved A → List ℕ → Reply A
  save_reply saved name = if has_room_for saved name then Done else refusal TooMany

  abbrev pub drop_reply : Saved A → List ℕ → Reply A
  drop_reply saved name = if is_some (get bytes_cmp saved name) then Done else refusal NoDatabase

  abbrev pub new_session_reply : State A → Reply A
  new_session_reply state =
      if nat_le 64 (length state.sessions) then refusal TooMany
      else Session (state.sessions_made + 1)

  abbrev pub diffed : Result (Option (List (Difference A))) Refusal → Reply A
  diffed (Ok found) = Done
  diffed (Err why) = refusal why

  -- the changes of the session, with the version of the tables
  abbrev pub capture_reply : ℕ → Tables A → SessionState A → Reply A
  capture_reply version tables session =
      Capture (record { version = version; changes = session_changes tables session })

  -- the reply to a change of a session: of a flag, as it is then
  abbrev pub change_reply : SessionChange A → ℕ → Tables A → SessionState A → Reply A
  change_reply (Enable asked) version tables session = Flag (unwrap_or asked session.enabled)
  change_reply (Indirect asked) version tables session = Flag (unwrap_or asked session.indirect)
  change_reply Restart version tables session = capture_reply version tables session
  change_reply _ version tables session = Done

  -- The reply to a command by the session that it is to: done, where the command is not named. A session is
  -- empty where no row was touched, also where each touched row is again as it was.
  abbrev pub session_reply : State A → SessionCommand A → SessionState A → Reply A
  session_reply state (Change change) session = change_reply change state.version state.main session
  session_reply state IsEmpty session = Flag (nat_eq (stored session.tables) 0)
  session_reply state (Diff from name) session = diffed (diff state.main state.saved from name)
  session_reply state CaptureAsked session = capture_reply state.version state.main session
  session_reply state _ session = Done

  -- a command to a session is refused where there is none with the number
  abbrev pub session_answer : Option (SessionState A) → (SessionState A → Reply A) → Reply A
  session_answer None reply = refusal NoSession
  session_answer (Some session) reply = reply session

  -- Why a command that leaves these sessions as they are is refused, if it is: one of them is not live.
  abbrev pub refused_quiet : NumberedSessions A → List ℕ → Option Refusal
  refused_quiet sessions quiet =
      if list_all (λ number. is_some (session_numbered sessions number)) quiet then None else Some NoSession

  abbrev pub effect_unless : Option Refusal → Result (Effect A) Why → Result (Effect A) Why
  effect_unless None effect = effect
  effect_unless (Some why) effect = Err (None, why)

  -- the effect of an application, or why it is refused
  abbrev pub application : State A → Contents A → Policy → List ℕ → Result (Effect A) Why
  application state blob policy quiet =
      effect_unless (refused_quiet state.sessions quiet)
      (outcome (snapshot_of state) (command.Apply blob policy quiet))

  -- the reply to a command in a state: the last case is that of `Read`
  abbrev pub answer : State A → Command A → Reply A
  answer state (command.CreateTable name schema) =
      write_reply state (outcome (snapshot_of state) (command.CreateTable name schema))
  answer state (command.Commit batch) =
      write_reply state (outcome (snapshot_of state) (command.Commit batch))
  answer state (command.Apply blob policy quiet) =
      write_reply state (application state blob policy quiet)
  answer state (command.SaveAs name) = save_reply state.saved name
  answer state (command.DropDatabase name) = drop_reply state.saved name
  answer state command.Databases = Databases (keys_of state.saved)
  answer state command.Sessions = Sessions (listed_sessions state.sessions)
  answer state command.Tables = TablesListed (listed_tables state.main)
  answer state command.Dump = Dump (snapshot_of state)
  answer state command.NewSession = new_session_reply state
  answer state (command.Session number command) =
      session_answer (session_numbered state.sessions number) (session_reply state command)
  answer state _ = Snapshot (snapshot_of state)

  -- ---- histories

  abbrev pub state_after : Past A → State A
  state_after past = record {
    events = length past;
    main = main past;
    version = version past;
    saved = saved past;
    sessions_made = sessions_made past;
    sessions = sessions past;
  }

  -- the reply to a capture of this session
  abbrev pub capture_after : Past A → ℕ → Reply A
  capture_after past session = answer (state_after past) (command.Session session CaptureAsked)

  -- each reply is that of its command after the events before it
  abbrev pub IsLegalPast : Past A → Type 0
  IsLegalPast [] = Unit {0}
  IsLegalPast (event ∷ past) = (event.reply ≡ answer (state_after past) event.command) × IsLegalPast past

  abbrev pub event_by : ℕ → Command A → Reply A → Event A
  event_by by command reply = record { by = by; command = command; reply = reply }

  -- The same of a history, the first event first.

  -- what a history leaves
  unfoldable pub state : List (Event A) → State A
  state history = state_after (reverse history)

  -- the reply to a command after a history
  unfoldable pub reply_of : List (Event A) → Command A → Reply A
  reply_of history command = answer (state history) command

  unfoldable pub IsLegal : List (Event A) → Type 0
  IsLegal history = IsLegalPast (reverse history)

  -- the history of these commands with these replies
  abbrev pub history_of : List (Command A) → List (Reply A) → List (Event A)
  history_of [] replies = []
  history_of (command ∷ commands) [] = []
  history_of (command ∷ commands) (reply ∷ replies) = event_by 0 command reply ∷ history_of commands replies
