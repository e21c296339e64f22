-- What a command to a session makes of it, and what any event does, by what the session was.
use Rattle.std.proofs.lemmas.List.{append-nil}
use Rattle.std.proofs.Common.{◌≡◌, ℕ, Bool, true, cond, Option, Some, None, Result, Ok, List, [], ◌∷◌, ◌++◌, ◌||◌, map, length, refl, sym, ap, ◌∙◌, arith}
use Rattle.std.specs.Prelude.{fold}
use Rattle.std.specs.Option.{unwrap_or}
use Rattle.std.specs.Cmp.Lexicographic.{nat_list_eq_equiv}
use Rattle.cap_value.specs.Bytes.{bytes_eq}
use Rattle.cap_value.specs.declared.refusal.Refusal.{Refusal}
use Rattle.cap_database.specs.Snapshot.{SnapshotState}
use Rattle.cap_database.specs.Tables.{Tables}
use Rattle.cap_compare.specs.declared.difference.Difference.{Difference}
use Rattle.cap_session.specs.Recording.{record_commit, record_diff, touch_table, touches_found}
use Rattle.cap_session.specs.Records.{with_touches}
use Rattle.cap_session.specs.Session.{AttachedTables, SessionState, forget}
use Rattle.cap_core.specs.declared.event.Event.{Event}
use Rattle.cap_core.specs.declared.command.Command.{Command}
use Rattle.cap_core.specs.declared.command.Command.TheVariants.{Session}
use Rattle.cap_core.specs.declared.session_command.SessionCommand.{SessionCommand}
use Rattle.cap_core.specs.declared.session_command.SessionCommand.TheVariants.{Attach, Change, Diff}
use Rattle.cap_core.specs.declared.reply.Reply.{Reply}
use Rattle.cap_core.specs.declared.reply.Reply.TheVariants.{Done, Refused}
use Rattle.cap_core.specs.Answer.{event_by}
use Rattle.cap_core.specs.Diff.{diff}
use Rattle.cap_core.specs.Flags.{asks_enabled, asks_for_all, asks_indirect, changes_shown, command_to, filter_set, is_enabled, is_indirect, last_filter, later, rule_by, wants_all}
use Rattle.cap_core.specs.History.{Databases, effect_of, main, saved, snapshot}
use Rattle.cap_core.specs.Outcome.{outcome}
use Rattle.cap_core.specs.Past.{Past, is_accepted}
use Rattle.cap_core.specs.Session.{records_of, session_of}
use Rattle.cap_core.specs.Touch.{Attaching, Touch, attach_list, attaching_at, attachings, diff_by, diff_touches, first_of_each, found_in, names_attached, names_compared, restarts, touch_found, touches, touches_of}
use Rattle.cap_core.specs.Transition.{compared, session_left}
use Rattle.cap_core.proofs.ChangeLemmas.{HasFlags, is_changed}
use Rattle.cap_core.proofs.HistoryLemmas.{attach-named, first_of_each-append, map-both, push_name, table_names, table_names-append, touches_of-append}
use Rattle.cap_core.proofs.SessionLemmas.{cond-same, kept, kept-none, same_session, session-elsewhere}
use Rattle.cap_core.proofs.ToldLemmas.{is_told, to_itself}
use Rattle.cap_core.proofs.TouchedLemmas.{records_of-append, records_of-none, told as told_touch}

module _ {A : Type 0} where
  abbrev done : Command A → Event A
  done c = event_by 0 c Done

  -- ---- the tables of a session after a command to it

  module _ (past : Past A) (number : ℕ) where
    -- the moments at which tables are attached by what it is told, and all touches then
    abbrev moments_by : Option (SessionCommand A) → List Attaching
    moments_by told = map (attaching_at (length past) 0) (names_attached told) ++ map (attaching_at (length past) 0) (names_compared (diff_by told past)) ++ []

    abbrev touches_by : Option (SessionCommand A) → List (Touch A)
    touches_by told = cond (restarts told) [] (touches number past ++ diff_touches number past (diff_by told past))

    -- tables with these names and touches
    abbrev tables_by : List (Touch A) → List (List ℕ) → AttachedTables A
    tables_by touched names = map (λ name. (name, records_of (touches_of name touched))) names

    abbrev names_before : List (List ℕ)
    names_before = attach_list number past

    tables-after : (told : SessionCommand A)
        → (session_of (done (Session number told) ∷ past) number).tables ≡ tables_by (touches_by (Some told)) (fold push_name names_before (table_names (moments_by (Some told))))
    tables-after told =
        let is = to_itself number told in
        let names : attach_list number (done (Session number told) ∷ past) ≡ fold push_name names_before (table_names (moments_by (Some told))) =
        ap (λ t. first_of_each (table_names (attachings number past ++ moments_by t))) is
        ∙ ap first_of_each (table_names-append (attachings number past) (moments_by (Some told)))
        ∙ first_of_each-append (table_names (attachings number past)) (table_names (moments_by (Some told))) in
        let touched : touches number (done (Session number told) ∷ past) ≡ touches_by (Some told) =
        λ i. cond (restarts (is i)) [] (touches number past ++ (cond-same (is_enabled number past) [] i ++ diff_touches number past (diff_by (is i) past))) in
        λ i. tables_by (touched i) (names i)

    -- no touch more
    same-tables : (names : List (List ℕ)) → tables_by (touches number past) names ≡ tables_by (touches number past ++ []) names
    same-tables names = ap (λ touched. tables_by touched names) (sym (append-nil (touches number past)))

    -- no touch
    no-tables : (names : List (List ℕ)) → forget (tables_by (touches number past) names) ≡ tables_by [] names
    no-tables names =
        map-both (λ table. (table.0, [])) (λ name. (name, kept past number name)) (λ name. (name, records_of [])) (λ name. ap (λ records. (name, records)) (sym records_of-none)) names

    found-told : (name table : List ℕ) (b : Bool) → bytes_eq table name ≡ b → (differences : List (Difference A))
        → map told_touch (touches_of table (map (touch_found number past name) differences)) ≡ cond b (touches_found (is_indirect number past) differences) []
    found-told name table b is [] = grind arith
    found-told name table b is (difference ∷ differences) = grind (arith, found-told name table b is differences)

    -- the tables that a diff leaves
    diff-tables : (name : List ℕ) (differences : List (Difference A))
        → (record_diff name differences (session_of past number)).tables ≡ tables_by (touches number past ++ map (touch_found number past name) differences) (push_name names_before name)
    diff-tables name differences =
        let more = map (touch_found number past name) differences in
        let found = touches_found (is_indirect number past) differences in
        let left : (table : List ℕ) → cond (bytes_eq name table) (table, with_touches (kept past number table) found) (table, kept past number table) ≡ (table, records_of (touches_of table (touches number past ++ more))) =
        λ table.
        let kept_on = records_of-append (touches_of table (touches number past)) (touches_of table more) in
        let told_on = found-told name table (bytes_eq table name) refl differences in
        grind (arith, touches_of-append table (touches number past) more, kept_on, told_on, nat_list_eq_equiv.symm table name) in
        ap (touch_table name found) (attach-named (kept past number) name names_before (kept-none past number name))
        ∙ map-both (λ attached. cond (bytes_eq name attached.0) (attached.0, with_touches attached.1 found) attached) (λ table. (table, kept past number table))
        (λ table. (table, records_of (touches_of table (touches number past ++ more)))) left (push_name names_before name)

    -- the tables that a command leaves: one that is not named leaves them as they are
    tables-left : (told : SessionCommand A)
        → (unwrap_or (session_left (main past) (saved past) told (session_of past number)) (session_of past number)).tables
        ≡ tables_by (touches_by (Some told)) (fold push_name names_before (table_names (moments_by (Some told))))
    tables-left (Attach name) = attach-named (kept past number) name names_before (kept-none past number name) ∙ same-tables (push_name names_before name)
    tables-left (Diff from name) = found (diff (main past) (saved past) from name)
      where
        found : (r : Result (Option (List (Difference A))) Refusal)
            → (compared name r (session_of past number)).tables
            ≡ tables_by (touches number past ++ diff_touches number past (found_in name r)) (fold push_name names_before (table_names (map (attaching_at (length past) 0) (names_compared (found_in name r)) ++ [])))
        found (Ok (Some differences)) = diff-tables name differences
        found _ = same-tables names_before
    tables-left (Change change) =
        (is_changed change (session_of past number)).tables
        ∙ grind (arith, no-tables names_before, same-tables names_before)
    tables-left _ = same-tables names_before

  -- ---- the flags and the rule

  flags-left : (main : Tables A) (databases : Databases A) (told : SessionCommand A) (session : SessionState A) → HasFlags told session (unwrap_or (session_left main databases told session) session)
  flags-left main databases (Change change) session = (is_changed change session).flags
  flags-left main databases (Diff from name) session = record { enabled = grind arith; indirect = grind arith; rule = λ filter all is. grind arith }
  flags-left main databases _ session = record { enabled = refl; indirect = refl; rule = λ filter all is. is }

  -- ---- any command that was accepted

  -- a command to the session
  here : (past : Past A) (number : ℕ) (told : SessionCommand A)
      → session_of (done (Session number told) ∷ past) number ≡ unwrap_or (session_left (main past) (saved past) told (session_of past number)) (session_of past number)
  here past number told =
      let session = session_of past number in
      let flags = flags-left (main past) (saved past) told session in
      let is = to_itself number told in
      same_session _ _
      (ap (λ t. unwrap_or (asks_enabled t) session.enabled) is ∙ sym flags.enabled)
      (ap (λ t. unwrap_or (asks_indirect t) session.indirect) is ∙ sym flags.indirect)
      (ap (λ t. rule_by (later (filter_set t) (last_filter number past)) (asks_for_all t || wants_all number past)) is ∙ sym (flags.rule (last_filter number past) (wants_all number past) refl))
      (tables-after past number told ∙ sym (tables-left past number told))

  -- what is left of a session by what it is told, or this, where it is told nothing
  abbrev pub left_by : Option (SessionCommand A) → Tables A → Databases A → SessionState A → SessionState A → SessionState A
  left_by None main databases session other = other
  left_by (Some told) main databases session other = unwrap_or (session_left main databases told session) session

  -- what the command makes of a session, by the tables and the saved databases before it and the session as it was
  abbrev pub session_after : ℕ → Command A → SnapshotState A → Databases A → SessionState A → SessionState A
  session_after number c now saved session =
      left_by (command_to number c) now.database saved session (record_commit (changes_shown number c (effect_of now.database (outcome now c)).changes) session)

  -- a session depends on no reply, but on whether the command was accepted
  done-reply : (past : Past A) (by : ℕ) (c : Command A) (reply : Reply A) (number : ℕ) → is_accepted reply ≡ true → session_of (event_by by c reply ∷ past) number ≡ session_of (done c ∷ past) number
  done-reply past by c (Refused at why) number accepted = cc
  done-reply past by c _ number accepted = refl

  -- a command to the session
  pub session-here : (past : Past A) (by number : ℕ) (told : SessionCommand A) (reply : Reply A) → is_accepted reply ≡ true
      → session_of (event_by by (Session number told) reply ∷ past) number ≡ unwrap_or (session_left (main past) (saved past) told (session_of past number)) (session_of past number)
  session-here past by number told reply accepted = done-reply past by (Session number told) reply number accepted ∙ here past number told

  pub session-of-command : (past : Past A) (event : Event A) (number : ℕ) → is_accepted event.reply ≡ true
      → session_of (event ∷ past) number ≡ session_after number event.command (snapshot past) (saved past) (session_of past number)
  session-of-command past event number accepted =
      done-reply past event.by event.command event.reply number accepted
      ∙ grind (arith, is_told number event.command, here past number, session-elsewhere number (done event.command) past)
