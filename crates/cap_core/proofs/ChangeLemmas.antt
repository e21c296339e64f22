-- What a change leaves of a session, by what it asks for.
use Rattle.std.proofs.Common.{◌≡◌, ◌||◌, ℕ, Bool, true, cond, Option, Some, arith}
use Rattle.std.specs.Option.{unwrap_or}
use Rattle.cap_filter.specs.Rule.{Rule}
use Rattle.cap_database.specs.Tables.{Tables}
use Rattle.cap_session.specs.Session.{SessionState, changed_by, forget}
use Rattle.cap_session.specs.declared.session_change.SessionChange.{SessionChange}
use Rattle.cap_core.specs.declared.session_command.SessionCommand.{SessionCommand}
use Rattle.cap_core.specs.declared.session_command.SessionCommand.TheVariants.{Change}
use Rattle.cap_core.specs.Answer.{change_reply}
use Rattle.cap_core.specs.Flags.{asks_enabled, asks_for_all, asks_indirect, filter_set, later, rule_by}
use Rattle.cap_core.specs.Past.{is_accepted}
use Rattle.cap_core.specs.Touch.{restarts}

module _ {A : Type 0} where
  -- the flags and the rule that a command leaves of a session
  pub record HasFlags (told : SessionCommand A) (session left : SessionState A) : Type 0 where
    pub enabled : left.enabled ≡ unwrap_or (asks_enabled (Some told)) session.enabled
    pub indirect : left.indirect ≡ unwrap_or (asks_indirect (Some told)) session.indirect
    pub rule : (filter : Option Rule) (all : Bool) → session.rule ≡ rule_by filter all
        → left.rule ≡ rule_by (later (filter_set (Some told)) filter) (asks_for_all (Some told) || all)

  -- those that a change leaves, and the tables
  pub record IsChanged (change : SessionChange A) (session left : SessionState A) : Type 0 where
    pub flags : HasFlags (Change change) session left
    pub tables : left.tables ≡ cond (restarts (Some (Change change))) (forget session.tables) session.tables

  pub is_changed : (change : SessionChange A) (session : SessionState A) → IsChanged change session (changed_by change session)
  is_changed change session =
      record { flags = record { enabled = grind arith; indirect = grind arith; rule = λ filter all is. grind arith }; tables = grind arith }

  -- a change is never refused
  pub change-accepted : (change : SessionChange A) (version : ℕ) (main : Tables A) (session : SessionState A) → is_accepted (change_reply change version main session) ≡ true
  change-accepted change version main session = grind arith
