-- The moments at which the tables of a session were attached, and its touches: read off the events of a
-- history.
use Rattle.std.specs.Prelude.{ℕ, Bool, true, false, Option, Some, None, Result, Ok, List, [], ◌∷◌, ◌++◌}
use Rattle.std.specs.Prelude.{length, map, filter, not, ◌&&◌, ◌||◌, nat_eq, nat_lt, nat_le, if◌then◌else◌}
use Rattle.std.specs.List.{enumerate_from, filter_map, list_any}
use Rattle.std.specs.Option.{option_map}
use Rattle.cap_value.specs.Bytes.{bytes_eq}
use Rattle.cap_value.specs.declared.refusal.Refusal.{Refusal}
use Rattle.cap_row.specs.Fields.{Fields}
use Rattle.cap_database.specs.Read.{row_at}
use Rattle.cap_database.specs.declared.change.Change.{Change}
use Rattle.cap_compare.specs.declared.difference.Difference.{Difference}
use Rattle.cap_session.specs.Recording.{is_cascade}
use Rattle.cap_session.specs.Session.{accepts_by}
use Rattle.cap_session.specs.declared.session_change.SessionChange.TheVariants.{Restart}
use Rattle.cap_core.specs.declared.session_command.SessionCommand.{SessionCommand}
use Rattle.cap_core.specs.declared.session_command.SessionCommand.TheVariants.{Attach, Change as Changes}
use Rattle.cap_core.specs.declared.session_command.SessionCommand.TheVariants.{Diff}
use Rattle.cap_core.specs.declared.event.Event.{Event}
use Rattle.cap_core.specs.Diff.{diff}
use Rattle.cap_core.specs.Flags.{changes_shown, command_to, is_enabled, is_indirect, rule}
use Rattle.cap_core.specs.History.{event_effect, main, saved, snapshot}
use Rattle.cap_core.specs.Past.{Past, is_accepted}

-- An attaching moment of a table: the index of its event in the history, and the index of the change that
-- attached it in the event. Both count from 0.
pub record Attaching : Type 0 where
  pub table : List ℕ
  pub event : ℕ
  pub change : ℕ

-- A touch of a key: its indices, the row before the event or its absence, of a diff that of the saved table,
-- and the indirect flag.
pub record Touch (A : Type 0) : Type 0 where
  pub event : ℕ
  pub change : ℕ
  pub table : List ℕ
  pub key : Fields A
  pub image : Option (Fields A)
  pub indirect : Bool

abbrev pub attaching_at : ℕ → ℕ → List ℕ → Attaching
attaching_at event change name = record { table = name; event = event; change = change }

-- each name once, where it comes first
abbrev pub first_of_each : List (List ℕ) → List (List ℕ)
first_of_each [] = []
first_of_each (name ∷ names) = name ∷ filter (λ other. not (bytes_eq name other)) (first_of_each names)

module _ {A : Type 0} where
  -- The changes to rows in the event after this past that a session is shown, each with its index. A session
  -- that the event leaves as it is, is shown none.
  abbrev pub event_changes : ℕ → Event A → Past A → List (ℕ × Change A)
  event_changes session event past =
      enumerate_from 0 (changes_shown session event.command (event_effect (snapshot past) event).changes)

  -- ---- diffs

  abbrev pub found_in : List ℕ → Result (Option (List (Difference A))) Refusal
      → Option (List ℕ × List (Difference A))
  found_in name (Ok (Some differences)) = Some (name, differences)
  found_in name _ = None

  abbrev pub diff_by : Option (SessionCommand A) → Past A → Option (List ℕ × List (Difference A))
  diff_by (Some (Diff from name)) past = found_in name (diff (main past) (saved past) from name)
  diff_by _ past = None

  -- the table that a diff of this session compared in the event after this past, and its differences
  abbrev pub event_diff : ℕ → Event A → Past A → Option (List ℕ × List (Difference A))
  event_diff session event past =
      if is_accepted event.reply then diff_by (command_to session event.command) past else None

  -- ---- the attach list

  -- the name that a command attaches to a session
  abbrev pub names_attached : Option (SessionCommand A) → List (List ℕ)
  names_attached (Some (Attach name)) = name ∷ []
  names_attached _ = []

  -- the name of a table that was compared
  abbrev pub names_compared : Option (List ℕ × List (Difference A)) → List (List ℕ)
  names_compared None = []
  names_compared (Some compared) = compared.0 ∷ []

  -- a change attaches its table where the session is enabled and its rule accepts the name
  abbrev pub attaching_by : ℕ → Past A → ℕ × Change A → Option Attaching
  attaching_by session past change =
      if is_enabled session past && accepts_by (rule session past) change.1.table
      then Some (attaching_at (length past) change.0 change.1.table)
      else None

  -- the attaching moments of a session in an event, which comes after this past
  abbrev pub event_attachings : ℕ → Event A → Past A → List Attaching
  event_attachings session event past =
      (if is_accepted event.reply
      then map (attaching_at (length past) 0) (names_attached (command_to session event.command))
      else [])
      ++ map (attaching_at (length past) 0) (names_compared (event_diff session event past))
      ++ filter_map (attaching_by session past) (event_changes session event past)

  -- the attaching moments of a session, in order of time
  abbrev pub attachings : ℕ → Past A → List Attaching
  attachings session [] = []
  attachings session (event ∷ past) = attachings session past ++ event_attachings session event past

  -- the attach list: each name at its first moment
  abbrev pub attach_list : ℕ → Past A → List (List ℕ)
  attach_list session past = first_of_each (map (λ moment. moment.table) (attachings session past))

  -- ---- the touches

  -- A change to a row in the event after this past, as a touch of its key: the image is the row before the
  -- event. A row without a key is never touched.
  abbrev pub touch_of : ℕ → Past A → ℕ × Change A → Option (Touch A)
  touch_of session past change = option_map (λ key. record {
    event = length past;
    change = change.0;
    table = change.1.table;
    key = key;
    image = row_at (main past) change.1.table key;
    indirect = is_indirect session past || is_cascade change.1.cause;
  }) change.1.key

  -- not later than the touch
  abbrev pub is_in_time : Touch A → Attaching → Bool
  is_in_time touch moment =
      nat_lt moment.event touch.event
      || (nat_eq moment.event touch.event && nat_le moment.change touch.change)

  -- one of these moments attached the table of the touch, in time
  abbrev pub is_recorded : List Attaching → Touch A → Bool
  is_recorded moments touch =
      list_any (λ moment. bytes_eq touch.table moment.table && is_in_time touch moment) moments

  -- an enabled session is touched by the changes that it is shown to rows of tables that are attached by then
  abbrev pub changes_touch : ℕ → Event A → Past A → List (Touch A)
  changes_touch session event past =
      if is_enabled session past
      then filter (is_recorded (attachings session (event ∷ past)))
      (filter_map (touch_of session past) (event_changes session event past))
      else []

  -- the touch of a key at which a diff found a difference: the image is the row of the saved table
  abbrev pub touch_found : ℕ → Past A → List ℕ → Difference A → Touch A
  touch_found session past name difference = record {
    event = length past;
    change = 0;
    table = name;
    key = difference.key;
    image = difference.image;
    indirect = is_indirect session past;
  }

  -- a diff touches each key at which the tables differ, also where the session is not enabled
  abbrev pub diff_touches : ℕ → Past A → Option (List ℕ × List (Difference A)) → List (Touch A)
  diff_touches session past None = []
  diff_touches session past (Some compared) = map (touch_found session past compared.0) compared.1

  -- the touches by an event
  abbrev pub event_touches : ℕ → Event A → Past A → List (Touch A)
  event_touches session event past =
      changes_touch session event past ++ diff_touches session past (event_diff session event past)

  abbrev pub restarts : Option (SessionCommand A) → Bool
  restarts (Some (Changes Restart)) = true
  restarts _ = false

  -- the touches of a session since it was last restarted, in order of time
  abbrev pub touches : ℕ → Past A → List (Touch A)
  touches session [] = []
  touches session (event ∷ past) =
      if is_accepted event.reply && restarts (command_to session event.command) then []
      else touches session past ++ event_touches session event past

  -- those of one table, each under its key
  abbrev pub touches_of : List ℕ → List (Touch A) → List (Fields A × Touch A)
  touches_of name touches =
      map (λ touch. (touch.key, touch)) (filter (λ touch. bytes_eq name touch.table) touches)
