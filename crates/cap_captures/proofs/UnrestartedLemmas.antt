-- A session that has captures in place of its restarts captures in the end what it would over its restarts.
use Rattle.std.proofs.Common.{◌≡◌, ℕ, ◌+◌, Bool, true, false, cond, Option, Some, None, Result, List, [], ◌∷◌, ◌++◌, ◌&&◌, ◌||◌, suc, length, map, refl, sym, ap, ap₂, subst, ◌∙◌, nat_eq}
use Rattle.std.specs.Prelude.{filter}
use Rattle.std.specs.Option.{option_map, unwrap_or}
use Rattle.std.specs.List.{enumerate_from, filter_map}
use Rattle.cap_database.specs.Read.{row_at}
use Rattle.cap_database.specs.Snapshot.{SnapshotState}
use Rattle.cap_database.specs.Tables.{Tables}
use Rattle.cap_database.specs.declared.change.Change.{Change}
use Rattle.cap_compare.specs.declared.difference.Difference.{Difference}
use Rattle.cap_session.specs.Recording.{is_cascade}
use Rattle.cap_session.specs.Session.{accepts_by}
use Rattle.cap_session.specs.declared.session_change.SessionChange.TheVariants as change
use Rattle.cap_core.specs.declared.command.Command.{Command}
use Rattle.cap_core.specs.declared.command.Command.TheVariants as command
use Rattle.cap_core.specs.declared.session_command.SessionCommand.{SessionCommand}
use Rattle.cap_core.specs.declared.session_command.SessionCommand.TheVariants as to_session
use Rattle.cap_core.specs.declared.event.Event.{Event}
use Rattle.cap_core.specs.Capture.{changes_of, session_changes}
use Rattle.cap_core.specs.Diff.{diff}
use Rattle.cap_core.specs.Flags.{asks_enabled, asks_for_all, asks_indirect, command_to, filter_set, is_enabled, is_indirect, is_quiet, last_filter, later, rule, rule_by, wants_all}
use Rattle.cap_core.specs.History.{Databases, effect_of, event_effect, is_write, main, saved, saved_after, snapshot, version}
use Rattle.cap_core.specs.Outcome.{Effect, Refused, no_effect, outcome}
use Rattle.cap_core.specs.Past.{Past, is_accepted}
use Rattle.cap_core_laws.specs.Restarts.{touches_over}
use Rattle.cap_core.specs.Session.{records_of, session_of}
use Rattle.cap_core.specs.Touch.{Attaching, found_in, attaching_at, attachings, diff_by, diff_touches, event_attachings, event_changes, event_diff, event_touches, first_of_each, is_recorded, names_attached, names_compared, restarts, touches, touches_of}
use Rattle.cap_captures.specs.Captures.{AreUnrestarted, capture_over, without_restart}

and_none : (b : Bool) → (b && false) ≡ false
and_none true = refl
and_none false = refl

module _ {A : Type 0} (session : ℕ) where
  -- ---- commands that do the same, but for a restart

  -- what is told to the session does the same
  record TellsAlike (c d : Option (SessionCommand A)) : Type 0 where
    enables : asks_enabled c ≡ asks_enabled d
    indirects : asks_indirect c ≡ asks_indirect d
    filters : filter_set c ≡ filter_set d
    wants : asks_for_all c ≡ asks_for_all d
    attaches : names_attached c ≡ names_attached d
    diffs : (past : Past A) → diff_by c past ≡ diff_by d past

  the-same : (c : Option (SessionCommand A)) → TellsAlike c c
  the-same c = record { enables = refl; indirects = refl; filters = refl; wants = refl; attaches = refl; diffs = λ past. refl }

  a-capture : (b : Bool) → TellsAlike (cond b (Some (to_session.Change change.Restart)) None) (cond b (Some to_session.Capture) None)
  a-capture true = record { enables = refl; indirects = refl; filters = refl; wants = refl; attaches = refl; diffs = λ past. refl }
  a-capture false = the-same None

  record IsAlike (c d : Command A) : Type 0 where
    made : (now : SnapshotState A) → outcome now c ≡ outcome now d
    writes : is_write c ≡ is_write d
    saves : (tables : Tables A) (databases : Databases A) → saved_after c tables databases ≡ saved_after d tables databases
    quiets : is_quiet session c ≡ is_quiet session d
    tells : TellsAlike (command_to session c) (command_to session d)

  itself : (c : Command A) → IsAlike c c
  itself c = record { made = λ now. refl; writes = refl; saves = λ tables databases. refl; quiets = refl; tells = the-same (command_to session c) }

  captured : (number : ℕ) → IsAlike (command.Session number (to_session.Change change.Restart)) (command.Session number to_session.Capture)
  captured number = record { made = λ now. refl; writes = refl; saves = λ tables databases. refl; quiets = refl; tells = a-capture (nat_eq number session) }

  alike : (c : Command A) → IsAlike c (without_restart session c)
  alike (command.Session number (to_session.Change change.Restart)) = elim (nat_eq number session) as (λ b. IsAlike (command.Session number (to_session.Change change.Restart)) (cond b (command.Session number to_session.Capture) (command.Session number (to_session.Change change.Restart)))) [
    | true ↦ captured number
    | false ↦ itself (command.Session number (to_session.Change change.Restart))
  ]
  alike c = itself c

  no-restart : (c : Command A) → restarts (command_to session (without_restart session c)) ≡ false
  no-restart (command.Session number (to_session.Change change.Restart)) = elim (nat_eq number session) as (λ b. nat_eq number session ≡ b → restarts (command_to {A = A} session (cond b (command.Session number to_session.Capture) (command.Session number (to_session.Change change.Restart)))) ≡ false) [
    | true ↦ λ here. ap (λ b. restarts {A = A} (cond b (Some to_session.Capture) None)) here
    | false ↦ λ apart. ap (λ b. restarts {A = A} (cond b (Some (to_session.Change change.Restart)) None)) apart
  ] refl
  no-restart (command.Session number told) = elim (nat_eq number session) as (λ b. restarts (cond b (Some told) None) ≡ false) [ true ↦ refl | false ↦ refl ]
  no-restart _ = refl

  -- ---- pasts with the same tables and flags

  record AreSame (p q : Past A) : Type 0 where
    count : length p ≡ length q
    tables : main p ≡ main q
    versions : version p ≡ version q
    databases : saved p ≡ saved q
    enabled : is_enabled session p ≡ is_enabled session q
    indirect : is_indirect session p ≡ is_indirect session q
    filters : last_filter session p ≡ last_filter session q
    all : wants_all session p ≡ wants_all session q
    moments : attachings session p ≡ attachings session q

  same-itself : (p : Past A) → AreSame p p
  same-itself p = record { count = refl; tables = refl; versions = refl; databases = refl; enabled = refl; indirect = refl; filters = refl; all = refl; moments = refl }

  diff-same : (p q : Past A) → AreSame p q → (c : Option (SessionCommand A)) → diff_by c p ≡ diff_by c q
  diff-same p q same (Some (to_session.Diff from name)) = λ i. found_in name (diff (same.tables i) (same.databases i) from name)
  diff-same p q same _ = refl

  module _ (p q : Past A) (x y : Event A) (same : AreSame p q) (told : is_accepted x.reply ≡ is_accepted y.reply) (does : IsAlike x.command y.command) where
    effect-same : event_effect (snapshot p) x ≡ event_effect (snapshot q) y
    effect-same =
        (λ i. cond (told i) (effect_of (same.tables i) (outcome (record { version = same.versions i; database = same.tables i }) x.command)) (no_effect (same.tables i)))
        ∙ ap (λ (o : Result (Effect A) Refused). cond (is_accepted y.reply) (effect_of (main q) o) (no_effect (main q))) (does.made (snapshot q))

    changes-same : event_changes session x p ≡ event_changes session y q
    changes-same = λ i. enumerate_from 0 (cond (does.quiets i) [] (effect-same i).changes)

    diffs-same : event_diff session x p ≡ event_diff session y q
    diffs-same = λ i. cond (told i) ((diff-same p q same (command_to session x.command) ∙ does.tells.diffs q) i) None

    rule-same : rule session p ≡ rule session q
    rule-same = λ i. rule_by (same.filters i) (same.all i)

    moments-same : event_attachings session x p ≡ event_attachings session y q
    moments-same = λ i.
        (cond (told i) (map (attaching_at (same.count i) 0) (does.tells.attaches i)) [])
        ++ map (attaching_at (same.count i) 0) (names_compared (diffs-same i))
        ++ filter_map (λ (change : ℕ × Change A). cond (same.enabled i && accepts_by (rule-same i) change.1.table) (Some (attaching_at (same.count i) change.0 change.1.table)) None) (changes-same i)

    all-moments : attachings session (x ∷ p) ≡ attachings session (y ∷ q)
    all-moments = λ i. same.moments i ++ moments-same i

    by_diff : (found : Option (List ℕ × List (Difference A))) → diff_touches session p found ≡ diff_touches session q found
    by_diff None = refl
    by_diff (Some compared) = λ i. map (λ (difference : Difference A). record {
      event = same.count i;
      change = 0;
      table = compared.0;
      key = difference.key;
      image = difference.image;
      indirect = same.indirect i;
    }) compared.1

    touches-same : event_touches session x p ≡ event_touches session y q
    touches-same = λ i.
        (cond (same.enabled i) (filter (is_recorded (all-moments i)) (filter_map (λ (change : ℕ × Change A). option_map (λ key. record {
          event = same.count i;
          change = change.0;
          table = change.1.table;
          key = key;
          image = row_at (same.tables i) change.1.table key;
          indirect = same.indirect i || is_cascade change.1.cause;
        }) change.1.key) (changes-same i))) [])
        ++ (by_diff (event_diff session x p) ∙ ap (diff_touches session q) diffs-same) i

    same-more : AreSame (x ∷ p) (y ∷ q)
    same-more = record {
      count = ap (λ (n : ℕ). suc n) same.count;
      tables = ap (λ (e : Effect A). e.database) effect-same;
      versions = λ i. cond (told i && does.writes i) (same.versions i + 1) (same.versions i);
      databases = λ i. cond (told i) ((ap₂ (saved_after x.command) same.tables same.databases ∙ does.saves (main q) (saved q)) i) (same.databases i);
      enabled = λ i. cond (told i) (unwrap_or (does.tells.enables i) (same.enabled i)) (same.enabled i);
      indirect = λ i. cond (told i) (unwrap_or (does.tells.indirects i) (same.indirect i)) (same.indirect i);
      filters = λ i. cond (told i) (later (does.tells.filters i) (same.filters i)) (same.filters i);
      all = λ i. (told i && does.tells.wants i) || same.all i;
      moments = all-moments;
    }

  -- ---- with captures in place of restarts

  module _ (start : Past A) (fresh : touches session start ≡ []) where
    record IsWithout (later others : List (Event A)) : Type 0 where
      same : AreSame (later ++ start) (others ++ start)
      touched : touches session (others ++ start) ≡ touches_over session later start

    without : (later others : List (Event A)) → AreUnrestarted session later others → IsWithout later others
    without [] [] alike_all = record { same = same-itself start; touched = fresh }
    without [] (other ∷ others) alike_all = absurd alike_all
    without (event ∷ later) [] alike_all = absurd alike_all
    without (event ∷ later) (other ∷ others) alike_all =
        let before = without later others alike_all.2 in
        let does : IsAlike event.command other.command = subst (IsAlike event.command) (sym alike_all.0) (alike event.command) in
        let no : (is_accepted other.reply && restarts (command_to session other.command)) ≡ false =
        ap (λ b. is_accepted other.reply && b) (ap (λ c. restarts (command_to session c)) alike_all.0 ∙ no-restart event.command) ∙ and_none (is_accepted other.reply) in
        record {
          same = same-more (later ++ start) (others ++ start) event other before.same alike_all.1 does;
          touched =
              ap (λ b. cond b [] (touches session (others ++ start) ++ event_touches session other (others ++ start))) no
              ∙ (λ i. before.touched i ++ sym (touches-same (later ++ start) (others ++ start) event other before.same alike_all.1 does) i);
        }

  pub one-capture : (start : Past A) (events others : List (Event A)) → touches session start ≡ [] → AreUnrestarted session events others
      → session_changes (main (others ++ start)) (session_of (others ++ start) session) ≡ capture_over session events start
  one-capture start events others fresh alike_all =
      let so = without start fresh events others alike_all in
      λ i. changes_of (sym so.same.tables i) (map (λ name. (name, records_of (touches_of name (so.touched i)))) (first_of_each (map (λ (moment : Attaching). moment.table) (sym so.same.moments i))))
