-- What one more event makes of a session.
pub use Rattle.std.proofs.Math.Bool.{and-false as and_false}
use Rattle.std.proofs.lemmas.List.{append-nil, map-id}
use Rattle.std.proofs.lemmas.List.Folds.{list_any-append}
use Rattle.std.proofs.Common.{◌≡◌, ℕ, Bool, true, false, cond, Option, Some, None, List, [], ◌∷◌, ◌++◌, ◌&&◌, ◌||◌, map, length, refl, sym, ap, ◌∙◌, arith}
use Rattle.std.specs.Prelude.{filter, fold}
use Rattle.std.specs.List.{enumerate_from, filter_map}
use Rattle.std.specs.Option.{unwrap_or}
use Rattle.cap_value.specs.Bytes.{bytes_eq}
use Rattle.cap_database.specs.Snapshot.{SnapshotState}
use Rattle.cap_database.specs.declared.change.Change.{Change}
use Rattle.cap_session.specs.Recording.{attach_by_rule, record_commit, touch_tables, touches_of as carried_by}
use Rattle.cap_core.proofs.CarriedLemmas.{carried-told, event-carries, shown-carries, told_by}
use Rattle.cap_session.proofs.TableLemmas.{nothing-attached}
use Rattle.cap_session.specs.Records.{Records, Touch as RowTouch, with_touches}
use Rattle.cap_session.specs.Session.{SessionState, new_session}
use Rattle.cap_core.specs.declared.command.Command.{Command}
use Rattle.cap_core.specs.declared.command.Command.TheVariants as command
use Rattle.cap_core.specs.declared.session_command.SessionCommand.{SessionCommand}
use Rattle.cap_core.specs.declared.event.Event.{Event}
use Rattle.cap_core.specs.Flags.{asks_enabled, asks_for_all, asks_indirect, changes_shown, command_to, filter_set, is_enabled, is_indirect, is_quiet, last_filter, later, rule as rule_of, rule_by, wants_all}
use Rattle.cap_core.specs.History.{effect_of, event_effect, main, snapshot}
use Rattle.cap_core.specs.Outcome.{no_effect, outcome}
use Rattle.cap_core.specs.Past.{Past, is_accepted}
use Rattle.cap_core.specs.Session.{records_of, session_of}
use Rattle.cap_core.specs.Touch.{Attaching, attach_list, attaching_at, attaching_by, attachings, changes_touch, diff_by, diff_touches, event_changes, first_of_each, is_recorded, names_attached, names_compared, restarts, touch_of, touches, touches_of}
use Rattle.cap_core.proofs.HistoryLemmas.{accepted-by-changes, attach_by-named, first_of_each-append, is_among, is_among-first_of_each, map-both, map-listed, names-by-changes, none-by-changes, push_by, seen_before, seen_now, table_names, table_names-append, touches-none, touches-told, touches_of-append}
use Rattle.cap_core.proofs.TouchedLemmas.{records_of-append, records_of-none, told}

pub cond-same : {X : Type 0} (b : Bool) (x : X) → cond b x x ≡ x
cond-same true x = refl
cond-same false x = refl

module _ {A : Type 0} where
  -- what is kept of a table
  abbrev pub kept : Past A → ℕ → List ℕ → Records A
  kept past session name = records_of (touches_of name (touches session past))

  pub kept-none : (past : Past A) (session : ℕ) (name : List ℕ) → is_among name (attach_list session past) ≡ false → kept past session name ≡ []
  kept-none past session name absent = ap records_of (touches-none session name past absent) ∙ records_of-none

  pub same_session : (s t : SessionState A) → s.enabled ≡ t.enabled → s.indirect ≡ t.indirect → s.rule ≡ t.rule → s.tables ≡ t.tables → s ≡ t
  same_session s t e n r k = λ i. record { enabled = e i; indirect = n i; rule = r i; tables = k i }

  -- ---- an event that says nothing to a session: it was refused, or its command is not to it

  pub record IsSilentBy (session : ℕ) (past : Past A) (accepted : Bool) (told : Option (SessionCommand A)) : Type 0 where
    pub attached : cond accepted (map (attaching_at (length past) 0) (names_attached told)) [] ≡ []
    pub compared : cond accepted (diff_by told past) None ≡ None
    pub restarts : (accepted && restarts told) ≡ false
    pub enabled : cond accepted (unwrap_or (asks_enabled told) (is_enabled session past)) (is_enabled session past) ≡ is_enabled session past
    pub indirect : cond accepted (unwrap_or (asks_indirect told) (is_indirect session past)) (is_indirect session past) ≡ is_indirect session past
    pub rule : rule_by (cond accepted (later (filter_set told) (last_filter session past)) (last_filter session past)) ((accepted && asks_for_all told) || wants_all session past) ≡ rule_of session past

  abbrev pub IsSilent : ℕ → Event A → Past A → Type 0
  IsSilent session event past = IsSilentBy session past (is_accepted event.reply) (command_to session event.command)

  silent-by : (session : ℕ) (past : Past A) (accepted : Bool) (told : Option (SessionCommand A)) → cond accepted told None ≡ None → IsSilentBy session past accepted told
  silent-by session past true None none = record { attached = refl; compared = refl; restarts = refl; enabled = refl; indirect = refl; rule = refl }
  silent-by session past true (Some told) none = cc
  silent-by session past false told none = record { attached = refl; compared = refl; restarts = refl; enabled = refl; indirect = refl; rule = refl }

  -- the command is not to the session
  pub silent-elsewhere : (session : ℕ) (event : Event A) (past : Past A) → command_to session event.command ≡ None → IsSilent session event past
  silent-elsewhere session event past none = silent-by session past _ _ (ap (λ told. cond (is_accepted event.reply) told None) none ∙ cond-same (is_accepted event.reply) None)

  module _ (session : ℕ) (event : Event A) (past : Past A) (silent : IsSilent session event past) where
    abbrev changes_made : List (Change A)
    changes_made = changes_shown session event.command (event_effect (snapshot past) event).changes

    abbrev by_changes : List Attaching
    by_changes = filter_map (attaching_by session past) (enumerate_from 0 changes_made)

    abbrev moments_before : List Attaching
    moments_before = attachings session past

    abbrev names_before : List (List ℕ)
    names_before = attach_list session past

    abbrev told_of_table : List ℕ → List (RowTouch A)
    told_of_table name = told_by (main past) (is_indirect session past) name changes_made

    attachings-silent : attachings session (event ∷ past) ≡ moments_before ++ by_changes
    attachings-silent = λ i. moments_before ++ (silent.attached i ++ map (attaching_at (length past) 0) (names_compared (silent.compared i)) ++ by_changes)

    touches-silent : touches session (event ∷ past) ≡ touches session past ++ changes_touch session event past
    touches-silent =
        (λ i. cond (silent.restarts i) [] (touches session past ++ (changes_touch session event past ++ diff_touches session past (silent.compared i))))
        ∙ ap (λ more. touches session past ++ more) (append-nil (changes_touch session event past))

    module _ (on : is_enabled session past ≡ true) where
      pub told-on : (name : List ℕ) → is_among name (attach_list session (event ∷ past)) ≡ true → map told (touches_of name (changes_touch session event past)) ≡ told_of_table name
      told-on name listed =
          let found = filter_map (touch_of session past) (enumerate_from 0 changes_made) in
          let moments = attachings session (event ∷ past) in
          let among : (is_among name (table_names moments_before) || is_among name (table_names by_changes)) ≡ true =
          grind (arith, list_any-append (bytes_eq name) (table_names moments_before) (table_names by_changes), table_names-append moments_before by_changes, attachings-silent, is_among-first_of_each name (table_names moments)) in
          ap (λ b. map told (touches_of name (cond b (filter (is_recorded moments) found) []))) on
          ∙ ap (λ ms. map told (touches_of name (filter (is_recorded ms) found))) (attachings-silent ∙ ap (λ ms. ms ++ by_changes) (sym (append-nil moments_before)))
          ∙ elim (is_among name (table_names moments_before)) as (λ b. is_among name (table_names moments_before) ≡ b → map told (touches_of name (filter (is_recorded ((moments_before ++ []) ++ by_changes)) found)) ≡ told_of_table name) [
            | true ↦ λ attached.
                touches-told session past name moments_before (λ more place change key later same. seen_before session past name attached more place change key _ same) 0 changes_made []
            | false ↦ λ absent.
                let accepted = accepted-by-changes session past name 0 changes_made (let now : is_among name (table_names by_changes) ≡ true = cc in now) in
                touches-told session past name moments_before (λ more place change key later same. seen_now session past name accepted moments_before more place change key later same) 0 changes_made []
          ] refl

      pub kept-on : (name : List ℕ) → is_among name (attach_list session (event ∷ past)) ≡ true → kept (event ∷ past) session name ≡ with_touches (kept past session name) (told_of_table name)
      kept-on name listed =
          let touched = changes_touch session event past in
          ap (λ ts. records_of (touches_of name ts)) touches-silent
          ∙ ap records_of (touches_of-append name (touches session past) touched)
          ∙ records_of-append (touches_of name (touches session past)) (touches_of name touched)
          ∙ ap (with_touches (kept past session name)) (told-on name listed)

      -- the rows that the changes carry are the rows before the event, where they come first
      tables-on : (session_of (event ∷ past) session).tables ≡ touch_tables (is_indirect session past) changes_made (attach_by_rule (rule_of session past) changes_made (session_of past session).tables)
      tables-on =
          let more : List ℕ → List ℕ × Records A = λ name. (name, with_touches (kept past session name) (carried_by (is_indirect session past) name changes_made)) in
          let pushed = fold (push_by (rule_of session past)) names_before (map (λ change. change.table) changes_made) in
          map-listed (λ name. (name, kept (event ∷ past) session name)) more (attach_list session (event ∷ past)) (λ name listed. ap (λ records. (name, records)) (kept-on name listed
          ∙ sym (carried-told (main past) (is_indirect session past) name changes_made (kept past session name) (shown-carries (main past) (event_effect (snapshot past) event).changes session event.command (event-carries (snapshot past) event) name))))
          ∙ ap (map more) (ap (λ moments. first_of_each (table_names moments)) attachings-silent
          ∙ ap first_of_each (table_names-append moments_before by_changes)
          ∙ first_of_each-append (table_names moments_before) (table_names by_changes)
          ∙ names-by-changes session past on 0 changes_made (first_of_each (table_names moments_before)))
          ∙ sym (map-both (λ attached. (attached.0, with_touches attached.1 (carried_by (is_indirect session past) attached.0 changes_made))) (λ name. (name, kept past session name)) more (λ name. refl) pushed)
          ∙ sym (ap (touch_tables (is_indirect session past) changes_made) (attach_by-named (rule_of session past) (kept past session) (map (λ change. change.table) changes_made) names_before (kept-none past session)))

    tables-off : is_enabled session past ≡ false → (session_of (event ∷ past) session).tables ≡ (session_of past session).tables
    tables-off off =
        let list : attach_list session (event ∷ past) ≡ names_before =
        ap (λ moments. first_of_each (table_names moments)) (attachings-silent ∙ ap (λ ms. moments_before ++ ms) (none-by-changes session past off 0 changes_made) ∙ append-nil moments_before) in
        let same : touches session (event ∷ past) ≡ touches session past =
        touches-silent
        ∙ ap (λ b. touches session past ++ cond b (filter (is_recorded (attachings session (event ∷ past))) (filter_map (touch_of session past) (event_changes session event past))) []) off
        ∙ append-nil (touches session past) in
        λ i. map (λ name. (name, records_of (touches_of name (same i)))) (list i)

    -- the tables of a session after an event that is silent to it
    pub tables-silent : (session_of (event ∷ past) session).tables
        ≡ cond (is_enabled session past) (touch_tables (is_indirect session past) changes_made (attach_by_rule (rule_of session past) changes_made (session_of past session).tables)) (session_of past session).tables
    tables-silent = grind (arith, tables-on, tables-off)

  -- ---- recording changes

  record_commit-is : (changes : List (Change A)) (s : SessionState A)
      → record_commit changes s ≡ record s { tables = cond s.enabled (touch_tables s.indirect changes (attach_by_rule s.rule changes s.tables)) s.tables }
  record_commit-is changes s = grind arith

  pub record_commit-nothing : (s : SessionState A) → record_commit [] s ≡ s
  record_commit-nothing s =
      ap (λ tables. cond s.enabled (record s { tables = tables }) s) (map-id s.tables) ∙ cond-same s.enabled s

  -- a new session attaches nothing, so that no change touches it
  pub record_commit-new : (changes : List (Change A)) → record_commit changes new_session ≡ new_session
  record_commit-new changes = ap (λ tables. record new_session { tables = touch_tables false changes tables }) (nothing-attached changes [])

  -- no changes are none to each session
  pub shown-none : (session : ℕ) (c : Command A) (changes : List (Change A)) → changes ≡ [] → changes_shown session c changes ≡ []
  shown-none session c changes none = ap (cond (is_quiet session c) []) none ∙ cond-same (is_quiet session c) []

  -- a session that is shown none stays as it is
  pub shown-recorded : (changes : List (Change A)) (quiet : Bool) (s : SessionState A) → cond quiet s (record_commit changes s) ≡ record_commit (cond quiet [] changes) s
  shown-recorded changes true s = sym (record_commit-nothing s)
  shown-recorded changes false s = refl

  -- ---- a session after such an event

  session-recorded : (session : ℕ) (event : Event A) (past : Past A) → IsSilent session event past
      → session_of (event ∷ past) session ≡ record_commit (changes_shown session event.command (event_effect (snapshot past) event).changes) (session_of past session)
  session-recorded session event past silent =
      same_session _ _ silent.enabled silent.indirect silent.rule (tables-silent session event past silent)
      ∙ sym (record_commit-is (changes_shown session event.command (event_effect (snapshot past) event).changes) (session_of past session))

  -- a command to a session changes no row
  pub effect-told : (past : Past A) (event : Event A) (number : ℕ) (told : SessionCommand A) → event.command ≡ command.Session number told → event_effect (snapshot past) event ≡ no_effect (main past)
  effect-told past event number told is =
      ap (λ c. cond (is_accepted event.reply) (effect_of (main past) (outcome (snapshot past) c)) (no_effect (main past))) is ∙ cond-same (is_accepted event.reply) (no_effect (main past))

  pub effect-refused : (event : Event A) (now : SnapshotState A) → is_accepted event.reply ≡ false → event_effect now event ≡ no_effect now.database
  effect-refused event now refused = ap (λ b. cond b (effect_of now.database (outcome now event.command)) (no_effect now.database)) refused

  -- a session whose event changed no row
  session-quiet : (session : ℕ) (event : Event A) (past : Past A) → IsSilent session event past → (event_effect (snapshot past) event).changes ≡ [] → session_of (event ∷ past) session ≡ session_of past session
  session-quiet session event past silent none =
      session-recorded session event past silent ∙ ap (λ changes. record_commit changes (session_of past session)) (shown-none session event.command _ none) ∙ record_commit-nothing (session_of past session)

  pub session-refused : (session : ℕ) (event : Event A) (past : Past A) → is_accepted event.reply ≡ false → session_of (event ∷ past) session ≡ session_of past session
  session-refused session event past refused =
      session-quiet session event past (silent-by session past _ _ (ap (λ b. cond b (command_to session event.command) None) refused)) (ap (λ effect. effect.changes) (effect-refused event (snapshot past) refused))

  -- a session that the command is not to
  pub session-apart : (session : ℕ) (event : Event A) (past : Past A) → command_to session event.command ≡ None → (event_effect (snapshot past) event).changes ≡ [] → session_of (event ∷ past) session ≡ session_of past session
  session-apart session event past apart = session-quiet session event past (silent-elsewhere session event past apart)

  pub session-elsewhere : (session : ℕ) (event : Event A) (past : Past A) → command_to session event.command ≡ None
      → session_of (event ∷ past) session ≡ record_commit (changes_shown session event.command (event_effect (snapshot past) event).changes) (session_of past session)
  session-elsewhere session event past is = session-recorded session event past (silent-elsewhere session event past is)

  -- a command that leaves a session as it is

  quiet-elsewhere : (session : ℕ) (c : Command A) → is_quiet session c ≡ true → command_to session c ≡ None
  quiet-elsewhere session (command.Apply blob policy quiet) is = refl
  quiet-elsewhere session _ is = cc

  pub quiet-stays : (past : Past A) (event : Event A) (session : ℕ) → is_quiet session event.command ≡ true → session_of (event ∷ past) session ≡ session_of past session
  quiet-stays past event session is =
      session-elsewhere session event past (quiet-elsewhere session event.command is)
      ∙ ap (λ b. record_commit (cond b [] (event_effect (snapshot past) event).changes) (session_of past session)) is
      ∙ record_commit-nothing (session_of past session)
