-- The state after one more command, as a function of the state. Laws relate it to the state after a history,
-- which is read off all events.
use Rattle.std.specs.Prelude.{ℕ, Option, Some, None, Result, Ok, Err, List, [], ◌∷◌, ◌++◌, ◌+◌, length}
use Rattle.std.specs.Prelude.{is_some, nat_le, if◌then◌else◌}
use Rattle.cap_value.specs.Bytes.{bytes_cmp}
use Rattle.cap_value.specs.declared.refusal.Refusal.{Refusal}
use Rattle.cap_tree.specs.Tree.{get, put_entry, take_entry}
use Rattle.cap_database.specs.Tables.{Tables}
use Rattle.cap_database.specs.declared.change.Change.{Change as RowChange}
use Rattle.cap_compare.specs.declared.difference.Difference.{Difference}
use Rattle.cap_session.specs.Recording.{record_diff}
use Rattle.cap_session.specs.Session.{SessionState, attached, changed_by, new_session}
use Rattle.cap_session.specs.Sessions.{NumberedSessions, record_commit_each, session_numbered, with_session}
use Rattle.cap_session.specs.Sessions.{without_session}
use Rattle.cap_core.specs.declared.command.Command.{Command}
use Rattle.cap_core.specs.declared.command.Command.TheVariants as command
use Rattle.cap_core.specs.declared.session_command.SessionCommand.{SessionCommand}
use Rattle.cap_core.specs.declared.session_command.SessionCommand.TheVariants.{Attach, Change, Delete, Diff}
use Rattle.cap_core.specs.Answer.{State, application, has_room_for, snapshot_of}
use Rattle.cap_core.specs.Diff.{diff}
use Rattle.cap_core.specs.History.{Databases}
use Rattle.cap_core.specs.Outcome.{Effect, Refused, outcome}

module _ {A : Type 0} where
  abbrev pub one_more : State A → State A
  one_more state = record state { events = state.events + 1 }

  -- ---- the tables

  -- these tables, one version later, with these changes in each session but the quiet ones
  abbrev pub written : State A → Tables A → List (RowChange A) → List ℕ → State A
  written state tables changes quiet =
      record (one_more state) {
        main = tables;
        version = state.version + 1;
        sessions = record_commit_each changes quiet state.sessions;
      }

  abbrev pub after_write : State A → List ℕ → Result (Effect A) Refused → State A
  after_write state quiet (Ok effect) = written state effect.database effect.changes quiet
  after_write state quiet (Err why) = one_more state

  abbrev pub after_save : State A → List ℕ → State A
  after_save state name =
      if has_room_for state.saved name
      then record (one_more state) { saved = put_entry bytes_cmp state.saved name state.main }
      else one_more state

  abbrev pub after_drop : State A → List ℕ → State A
  after_drop state name =
      if is_some (get bytes_cmp state.saved name)
      then record (one_more state) { saved = take_entry bytes_cmp state.saved name }
      else one_more state

  -- ---- the sessions

  abbrev pub after_new_session : State A → State A
  after_new_session state =
      if nat_le 64 (length state.sessions) then one_more state
      else record (one_more state) {
        sessions_made = state.sessions_made + 1;
        sessions = state.sessions ++ (state.sessions_made + 1, new_session) ∷ [];
      }

  -- ---- one session

  abbrev pub compared : List ℕ → Result (Option (List (Difference A))) Refusal → SessionState A
      → SessionState A
  compared name (Ok (Some differences)) session = record_diff name differences session
  compared name _ session = session

  -- What a command leaves of the session that it is to, by the tables and the saved databases, or none where
  -- it ends the session. A command that is not named leaves it as it is.
  abbrev pub session_left : Tables A → Databases A → SessionCommand A → SessionState A
      → Option (SessionState A)
  session_left main saved Delete session = None
  session_left main saved (Attach name) session = Some (attached name session)
  session_left main saved (Change change) session = Some (changed_by change session)
  session_left main saved (Diff from name) session =
      Some (compared name (diff main saved from name) session)
  session_left main saved _ session = Some session

  -- the sessions with what is left of the one with the number
  abbrev pub with_left : NumberedSessions A → ℕ → Option (SessionState A) → NumberedSessions A
  with_left sessions number None = without_session sessions number
  with_left sessions number (Some left) = with_session sessions number left

  abbrev pub with_sessions : State A → NumberedSessions A → State A
  with_sessions state sessions = record (one_more state) { sessions = sessions }

  -- A command to the session with this number. Where there is none, nothing changes but the number of events.
  abbrev pub after_session : State A → ℕ → Option (SessionState A)
      → (SessionState A → Option (SessionState A)) → State A
  after_session state number None left = one_more state
  after_session state number (Some session) left =
      with_sessions state (with_left state.sessions number (left session))

  -- the state after a command: one that is not named only asks
  abbrev pub next : State A → Command A → State A
  next state (command.CreateTable name schema) =
      after_write state [] (outcome (snapshot_of state) (command.CreateTable name schema))
  next state (command.Commit batch) =
      after_write state [] (outcome (snapshot_of state) (command.Commit batch))
  next state (command.Apply blob policy quiet) =
      after_write state quiet (application state blob policy quiet)
  next state (command.SaveAs name) = after_save state name
  next state (command.DropDatabase name) = after_drop state name
  next state command.NewSession = after_new_session state
  next state (command.Session number command) =
      after_session state number (session_numbered state.sessions number)
      (session_left state.main state.saved command)
  next state _ = one_more state
