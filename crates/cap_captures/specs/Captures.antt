-- The one capture over captures in a row, and the changesets that have what it has.
use Rattle.std.specs.Prelude.{◌≡◌, ℕ, Bool, true, false, Option, Some, List, [], ◌∷◌, ◌++◌, ◌&&◌}
use Rattle.std.specs.Prelude.{map, filter, nat_eq, if◌then◌else◌}
use Rattle.std.specs.List.{AllByRecursion}
use Rattle.std.specs.Option.{unwrap_or}
use Rattle.std.specs.Ordering.{eq_by_cmp}
use Rattle.cap_row.specs.Fields.{Fields}
use Rattle.cap_row.specs.Key.{fields_cmp}
use Rattle.cap_changes.specs.Group.{TableChanges}
use Rattle.cap_changes.specs.declared.row_change.RowChange.{RowChange}
use Rattle.cap_changes.specs.declared.row_change.RowChange.TheVariants.{Insert, Update, Delete}
use Rattle.cap_database.specs.Read.{row_at}
use Rattle.cap_session.specs.Session.{SessionState}
use Rattle.cap_session.specs.declared.session_change.SessionChange.TheVariants.{Restart}
use Rattle.cap_core.specs.declared.command.Command.{Command}
use Rattle.cap_core.specs.declared.command.Command.TheVariants.{Session}
use Rattle.cap_core.specs.declared.session_command.SessionCommand.TheVariants.{Capture, Change}
use Rattle.cap_core.specs.declared.event.Event.{Event}
use Rattle.cap_core.specs.Capture.{session_changes}
use Rattle.cap_core.specs.Flags.{command_to}
use Rattle.cap_core.specs.History.{main}
use Rattle.cap_core.specs.Past.{Past, is_accepted}
use Rattle.cap_core_laws.specs.Restarts.{first_touched, touches_over}
use Rattle.cap_core.specs.Session.{records_of, session_of}
use Rattle.cap_core.specs.Touch.{Touch, attach_list, restarts, touches, touches_of}
use Rattle.cap_captures.specs.Rows.{row_changes}

module _ {A : Type 0} where
  -- what a session would have, had no restart among the later events cleared its records
  abbrev pub session_over : ℕ → List (Event A) → Past A → SessionState A
  session_over session later start = record (session_of (later ++ start) session) {
    tables =
        map (λ name. (name, records_of (touches_of name (touches_over session later start))))
        (attach_list session (later ++ start));
  }

  -- the one capture over all of them
  abbrev pub capture_over : ℕ → List (Event A) → Past A → List (TableChanges A)
  capture_over session later start =
      session_changes (main (later ++ start)) (session_over session later start)

  -- the row before the first touch over all of its key, or the row now where there is none
  abbrev pub first_row : ℕ → List (Event A) → Past A → List ℕ → Fields A → Option (Fields A)
  first_row session later start name key =
      unwrap_or (first_touched (touches_over session later start) name key)
      (row_at (main (later ++ start)) name key)

  -- the command, but a capture of the session in place of its restart
  abbrev pub without_restart : ℕ → Command A → Command A
  without_restart session (Session number (Change Restart)) =
      if nat_eq number session then Session number Capture else Session number (Change Restart)
  without_restart session command = command

  -- The same commands, but for captures of the session in place of its restarts, in one history and in
  -- another. Each is accepted in both or refused in both.
  abbrev pub AreUnrestarted : ℕ → List (Event A) → List (Event A) → Type 0
  AreUnrestarted session [] [] = Unit {0}
  AreUnrestarted session [] (other ∷ others) = ⊥
  AreUnrestarted session (event ∷ later) [] = ⊥
  AreUnrestarted session (event ∷ later) (other ∷ others) =
      (other.command ≡ without_restart session event.command)
      × (is_accepted event.reply ≡ is_accepted other.reply) × AreUnrestarted session later others

  -- the change, as a direct one
  abbrev pub as_direct : RowChange A → RowChange A
  as_direct (Insert indirect new) = Insert false new
  as_direct (Update indirect old new) = Update false old new
  as_direct (Delete indirect old) = Delete false old

  -- all touches of the key are indirect, or all are direct
  abbrev pub HaveOneFlag : List (Touch A) → List ℕ → Fields A → Type 0
  HaveOneFlag touches name key =
      (indirect : Bool) × AllByRecursion (λ touch. touch.1.indirect ≡ indirect)
      (filter (λ touch. eq_by_cmp fields_cmp key touch.0) (touches_of name touches))

  -- the row is not as it was before the first of these touches of its key, if there is one
  abbrev pub IsChangedSince : List (Touch A) → Past A → List ℕ → Fields A → Type 0
  IsChangedSince touches past name key =
      (image : Option (Fields A)) → first_touched touches name key ≡ Some image
      → image ≡ row_at (main past) name key → ⊥

  -- At each restart of the session among the later events the row has changed since the restart before it,
  -- where it was touched since, and over all, where it was touched at all.
  abbrev pub IsChangedEachTime : ℕ → List (Event A) → Past A → List ℕ → Fields A → Type 0
  IsChangedEachTime session [] start name key = Unit {0}
  IsChangedEachTime session (event ∷ later) start name key =
      ((is_accepted event.reply && restarts (command_to session event.command)) ≡ true
      → IsChangedSince (touches session (later ++ start)) (later ++ start) name key
      × IsChangedSince (touches_over session later start) (later ++ start) name key)
      × IsChangedEachTime session later start name key

  -- A changeset has of each row what the one capture has, but for the indirect flag; and with that flag where
  -- all touches of the row have the same, and where the row has changed at each restart.
  pub record HasCaptureOver (session : ℕ) (later : List (Event A)) (start : Past A)
      (groups : List (TableChanges A)) : Type 0 where
    pub rows : (name : List ℕ) (key : Fields A) → map as_direct (row_changes name key groups)
        ≡ map as_direct (row_changes name key (capture_over session later start))
    pub flags : (name : List ℕ) (key : Fields A)
        → HaveOneFlag (touches_over session later start) name key
        → row_changes name key groups ≡ row_changes name key (capture_over session later start)
    pub changed : (name : List ℕ) (key : Fields A) → IsChangedEachTime session later start name key
        → row_changes name key groups ≡ row_changes name key (capture_over session later start)
