-- What the captures of a session depend on after a past, and that what comes after changes it by that alone.
use Rattle.std.proofs.Common.{◌≡◌, ℕ, ◌+◌, Bool, true, false, cond, Some, None, List, [], ◌∷◌, ◌++◌, ◌&&◌, ◌||◌, not, refl, sym, ap, ◌∙◌, arith, nat_eq}
use Rattle.std.proofs.lemmas.Map.Views.{any-filter_same}
use Rattle.std.specs.List.{list_any, range_with_len}
use Rattle.cap_database.specs.Snapshot.{SnapshotState}
use Rattle.cap_database.specs.Tables.{Tables}
use Rattle.cap_session.specs.Recording.{record_commit}
use Rattle.cap_session.specs.Session.{SessionState}
use Rattle.cap_core.specs.declared.command.Command.{Command}
use Rattle.cap_core.specs.declared.command.Command.TheVariants.{Session}
use Rattle.cap_core.specs.declared.event.Event.{Event}
use Rattle.cap_core.specs.declared.reply.Reply.{Reply}
use Rattle.cap_core.specs.Answer.{capture_after, capture_reply, session_answer}
use Rattle.cap_core.specs.Flags.{command_to, deletes, is_dropped, makes_session, session_named, sessions_made}
use Rattle.cap_core.specs.History.{Databases, effect_of, is_write, main, saved, saved_after, version}
use Rattle.cap_core.specs.Outcome.{no_effect, outcome}
use Rattle.cap_core.specs.Past.{Past, is_accepted}
use Rattle.cap_core.specs.Session.{session_of}
use Rattle.cap_core_laws.proofs.AppliedCaptureLemmas.{found-live}
use Rattle.cap_core.proofs.NumberLemmas.{equal_numbers, unequal_numbers}
use Rattle.cap_core.proofs.SessionLemmas.{record_commit-nothing, session-refused}
use Rattle.cap_core.proofs.FlagLemmas.{left_by, session-of-command, session_after}
use Rattle.cap_core.proofs.ToldLemmas.{is_named, to_others}

-- the tables, what is saved, and of the session with the number what it has and whether it is live
record Seen (A : Type 0) : Type 0 where
  mains : Tables A
  versions : ℕ
  saves : Databases A
  session : SessionState A
  made : ℕ
  dropped : Bool

module _ {A : Type 0} where
  abbrev seen : ℕ → Past A → Seen A
  seen number past = record { mains = main past; versions = version past; saves = saved past; session = session_of past number; made = sessions_made past; dropped = is_dropped past number }

  -- what a command leaves of it
  abbrev seen_by : ℕ → Bool → Command A → Seen A → Seen A
  seen_by number accepted c s =
      let now : SnapshotState A = record { version = s.versions; database = s.mains } in
      record {
        mains = (cond accepted (effect_of s.mains (outcome now c)) (no_effect s.mains)).database;
        versions = cond (accepted && is_write c) (s.versions + 1) s.versions;
        saves = cond accepted (saved_after c s.mains s.saves) s.saves;
        session = cond accepted (session_after number c now s.saves s.session) s.session;
        made = cond (accepted && makes_session c) (s.made + 1) s.made;
        dropped = (accepted && deletes (command_to number c)) || s.dropped;
      }

  seen-event : (number : ℕ) (event : Event A) (past : Past A) → seen number (event ∷ past) ≡ seen_by number (is_accepted event.reply) event.command (seen number past)
  seen-event number event past =
      let after : SessionState A = session_after number event.command (record { version = version past; database = main past }) (saved past) (session_of past number) in
      let is : session_of (event ∷ past) number ≡ cond (is_accepted event.reply) after (session_of past number) = grind (arith, session-of-command past event number, session-refused number event past) in
      ap (λ s. record (seen_by number (is_accepted event.reply) event.command (seen number past)) { session = s })
      is

  seen-later : (number : ℕ) (past other : Past A) (later : List (Event A)) → seen number past ≡ seen number other → seen number (later ++ past) ≡ seen number (later ++ other)
  seen-later number past other [] same = same
  seen-later number past other (event ∷ later) same =
      seen-event number event (later ++ past) ∙ ap (seen_by number (is_accepted event.reply) event.command) (seen-later number past other later same) ∙ sym (seen-event number event (later ++ other))

  -- a command to another session leaves all of it
  seen-apart : (number one : ℕ) (past : Past A) (event : Event A) → session_named event.command ≡ Some one → (number ≡ one → ⊥) → seen number (event ∷ past) ≡ seen number past
  seen-apart number one past event named apart =
      let told = is_named event.command one named in
      let s = seen number past in
      seen-event number event past
      ∙ ap (λ c. seen_by number (is_accepted event.reply) c s) told.1
      ∙ elim (is_accepted event.reply) as (λ b. seen_by number b (Session one told.0) s ≡ s) [
        | true ↦ ap (λ o. record s { session = left_by o s.mains s.saves s.session (record_commit [] s.session); dropped = deletes o || s.dropped }) (to_others number one told.0 apart)
            ∙ ap (λ t. record s { session = t }) (record_commit-nothing s.session)
        | false ↦ refl
      ]

  -- ---- captures

  abbrev shown : ℕ → Seen A → Reply A
  shown number s =
      session_answer (cond (not s.dropped && list_any (nat_eq number) (range_with_len 1 s.made)) (Some s.session) None) (capture_reply s.versions s.mains)

  capture-shown : (number : ℕ) (past : Past A) → capture_after past number ≡ shown number (seen number past)
  capture-shown number past =
      ap (λ found. session_answer found (capture_reply (version past) (main past)))
      (found-live past number ∙ ap (λ b. cond b (Some (session_of past number)) None) (any-filter_same (nat_eq number) (λ k. not (is_dropped past k)) (not (is_dropped past number)) (λ k same. ap (λ n. not (is_dropped past n)) (sym (equal_numbers number k same))) (range_with_len 1 (sessions_made past))))

  captures-agree : (number : ℕ) (past other : Past A) → seen number past ≡ seen number other → capture_after past number ≡ capture_after other number
  captures-agree number past other same = capture-shown number past ∙ ap (shown number) same ∙ sym (capture-shown number other)

  -- a command to one session changes no other's captures
  pub others_capture : (past : Past A) (event : Event A) (one other : ℕ) → session_named event.command ≡ Some one → (other ≡ one → ⊥) → (later : List (Event A))
      → capture_after (later ++ event ∷ past) other ≡ capture_after (later ++ past) other
  others_capture past event one other named apart later =
      captures-agree other (later ++ event ∷ past) (later ++ past) (seen-later other (event ∷ past) past later (seen-apart other one past event named apart))

  -- the order of two sessions' commands
  pub either_order : (past : Past A) (first second : Event A) (one other : ℕ) → session_named first.command ≡ Some one → session_named second.command ≡ Some other → (one ≡ other → ⊥)
      → (later : List (Event A)) (number : ℕ) → capture_after (later ++ second ∷ first ∷ past) number ≡ capture_after (later ++ first ∷ second ∷ past) number
  either_order past first second one other a b apart later number =
      captures-agree number (later ++ second ∷ first ∷ past) (later ++ first ∷ second ∷ past)
      (seen-later number (second ∷ first ∷ past) (first ∷ second ∷ past) later
      (elim (nat_eq number one) as (λ t. nat_eq number one ≡ t → seen number (second ∷ first ∷ past) ≡ seen number (first ∷ second ∷ past)) [
        | true ↦ λ is.
            let away : number ≡ other → ⊥ = λ e. apart (sym (equal_numbers number one is) ∙ e) in
            seen-apart number other (first ∷ past) second b away ∙ sym (seen-later number (second ∷ past) past (first ∷ []) (seen-apart number other past second b away))
        | false ↦ λ is.
            let away : number ≡ one → ⊥ = unequal_numbers number one is in
            seen-later number (first ∷ past) past (second ∷ []) (seen-apart number one past first a away) ∙ sym (seen-apart number one (second ∷ past) first a away)
      ] refl))
