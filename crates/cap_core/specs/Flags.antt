-- The sessions that a history leaves, and the flags and the rule of each: read off its events.
use Rattle.std.specs.Prelude.{ℕ, Bool, true, false, Option, Some, None, List, [], ◌∷◌, ◌+◌, ◌&&◌, not, filter}
use Rattle.std.specs.Prelude.{nat_eq, if◌then◌else◌}
use Rattle.std.specs.List.{range_with_len, list_any}
use Rattle.std.specs.Option.{unwrap_or}
use Rattle.cap_filter.specs.Rule.{Rule}
use Rattle.cap_database.specs.declared.change.Change.{Change}
use Rattle.cap_session.specs.Sessions.{is_one_of}
use Rattle.cap_session.specs.declared.session_change.SessionChange.TheVariants.{AttachAll, Enable, Indirect}
use Rattle.cap_session.specs.declared.session_change.SessionChange.TheVariants.{SetFilter}
use Rattle.cap_session.specs.declared.rule.AutomaticRule.{AutomaticRule}
use Rattle.cap_session.specs.declared.rule.AutomaticRule.TheVariants.{Nothing, All, Filter}
use Rattle.cap_core.specs.declared.command.Command.{Command}
use Rattle.cap_core.specs.declared.command.Command.TheVariants.{Apply, NewSession, Session}
use Rattle.cap_core.specs.declared.session_command.SessionCommand.{SessionCommand}
use Rattle.cap_core.specs.declared.session_command.SessionCommand.TheVariants.{Change as Changes, Delete}
use Rattle.cap_core.specs.Past.{Past, is_accepted}

-- the earlier one unless there is a later one
abbrev pub later : Option Rule → Option Rule → Option Rule
later None earlier = earlier
later (Some last) earlier = Some last

module _ {A : Type 0} where
  abbrev pub makes_session : Command A → Bool
  makes_session NewSession = true
  makes_session _ = false

  -- the number of sessions created, which is the number of the latest
  abbrev pub sessions_made : Past A → ℕ
  sessions_made [] = 0
  sessions_made (event ∷ past) =
      if is_accepted event.reply && makes_session event.command then sessions_made past + 1
      else sessions_made past

  -- the session that a command is to, where it is to one
  abbrev pub session_named : Command A → Option ℕ
  session_named (Session number command) = Some number
  session_named _ = None

  -- what a command is to this session, where it is to it
  abbrev pub command_to : ℕ → Command A → Option (SessionCommand A)
  command_to session (Session number command) = if nat_eq number session then Some command else None
  command_to session _ = None

  -- the sessions that a command leaves as they are
  abbrev pub quiet_sessions : Command A → List ℕ
  quiet_sessions (Apply blob policy quiet) = quiet
  quiet_sessions _ = []

  abbrev pub is_quiet : ℕ → Command A → Bool
  is_quiet session command = is_one_of (quiet_sessions command) session

  -- the changes of a command that a session is shown: none, where the command leaves it as it is
  abbrev pub changes_shown : ℕ → Command A → List (Change A) → List (Change A)
  changes_shown session command changes = if is_quiet session command then [] else changes

  abbrev pub deletes : Option (SessionCommand A) → Bool
  deletes (Some Delete) = true
  deletes _ = false

  abbrev pub is_dropped : Past A → ℕ → Bool
  is_dropped past session =
      list_any (λ event. is_accepted event.reply && deletes (command_to session event.command)) past

  -- the numbers of the live sessions, rising
  abbrev pub live_sessions : Past A → List ℕ
  live_sessions past =
      filter (λ session. not (is_dropped past session)) (range_with_len 1 (sessions_made past))

  -- ---- flags

  abbrev pub asks_enabled : Option (SessionCommand A) → Option Bool
  asks_enabled (Some (Changes (Enable asked))) = asked
  asks_enabled _ = None

  abbrev pub asks_indirect : Option (SessionCommand A) → Option Bool
  asks_indirect (Some (Changes (Indirect asked))) = asked
  asks_indirect _ = None

  -- a session is enabled until it is set otherwise
  abbrev pub is_enabled : ℕ → Past A → Bool
  is_enabled session [] = true
  is_enabled session (event ∷ past) =
      if is_accepted event.reply
      then unwrap_or (asks_enabled (command_to session event.command)) (is_enabled session past)
      else is_enabled session past

  -- a session is not indirect until it is set so
  abbrev pub is_indirect : ℕ → Past A → Bool
  is_indirect session [] = false
  is_indirect session (event ∷ past) =
      if is_accepted event.reply
      then unwrap_or (asks_indirect (command_to session event.command)) (is_indirect session past)
      else is_indirect session past

  -- ---- the rule by which tables are attached

  abbrev pub asks_for_all : Option (SessionCommand A) → Bool
  asks_for_all (Some (Changes AttachAll)) = true
  asks_for_all _ = false

  abbrev pub filter_set : Option (SessionCommand A) → Option Rule
  filter_set (Some (Changes (SetFilter filter))) = Some filter
  filter_set _ = None

  -- the filter that was set last
  abbrev pub last_filter : ℕ → Past A → Option Rule
  last_filter session [] = None
  last_filter session (event ∷ past) =
      if is_accepted event.reply
      then later (filter_set (command_to session event.command)) (last_filter session past)
      else last_filter session past

  abbrev pub wants_all : ℕ → Past A → Bool
  wants_all session past =
      list_any (λ event. is_accepted event.reply && asks_for_all (command_to session event.command)) past

  -- a filter decides where one was set
  abbrev pub rule_by : Option Rule → Bool → AutomaticRule A
  rule_by (Some filter) all = Filter filter
  rule_by None true = All
  rule_by None false = Nothing

  abbrev pub rule : ℕ → Past A → AutomaticRule A
  rule session past = rule_by (last_filter session past) (wants_all session past)
