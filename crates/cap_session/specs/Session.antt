-- A session: its flags, the rule by which it attaches tables by itself, and the attached tables with their
-- records.
use Rattle.std.specs.Prelude.{ℕ, Bool, true, false, Option, option_and_then, List, [], ◌∷◌, ◌++◌, map, length}
use Rattle.std.specs.Prelude.{sum, if◌then◌else◌}
use Rattle.std.specs.List.{list_any}
use Rattle.std.specs.Map.{lookup}
use Rattle.std.specs.Option.{unwrap_or}
use Rattle.cap_value.specs.Bytes.{bytes_eq}
use Rattle.cap_row.specs.Fields.{Fields}
use Rattle.cap_row.specs.Key.{fields_cmp}
use Rattle.cap_tree.specs.Tree.{get}
use Rattle.cap_filter.specs.Accepts.{accepts}
use Rattle.cap_filter.specs.Rule.{Rule}
use Rattle.cap_session.specs.declared.record.Record.{Record}
use Rattle.cap_session.specs.declared.rule.AutomaticRule.{AutomaticRule}
use Rattle.cap_session.specs.declared.rule.AutomaticRule.TheVariants.{Nothing, All, Filter}
use Rattle.cap_session.specs.declared.session_change.SessionChange.{SessionChange}
use Rattle.cap_session.specs.declared.session_change.SessionChange.TheVariants.{AttachAll, SetFilter, Enable}
use Rattle.cap_session.specs.declared.session_change.SessionChange.TheVariants.{Indirect, Restart}
use Rattle.cap_session.specs.Records.{Records}

-- the attached tables in the order in which they were attached, each with its records
abbrev pub AttachedTables : Type 0 → Type 0
AttachedTables A = List (List ℕ × Records A)

pub record SessionState (A : Type 0) : Type 0 where
  pub enabled : Bool
  pub indirect : Bool
  pub rule : AutomaticRule A
  pub tables : AttachedTables A

module _ {A : Type 0} where
  abbrev pub new_session : SessionState A
  new_session = record { enabled = true; indirect = false; rule = Nothing; tables = [] }

  -- the name is in the attach list
  abbrev pub is_listed : List ℕ → AttachedTables A → Bool
  is_listed name tables = list_any (λ attached. bytes_eq name attached.0) tables

  -- the attach list with the name, last unless it is there
  abbrev pub attach : List ℕ → AttachedTables A → AttachedTables A
  attach name tables = if is_listed name tables then tables else tables ++ (name, []) ∷ []

  -- the rule accepts the name
  abbrev pub accepts_by : AutomaticRule A → List ℕ → Bool
  accepts_by Nothing name = false
  accepts_by All name = true
  accepts_by (Filter rule) name = accepts rule name

  -- every table, unless a filter is set
  abbrev pub all_unless_filter : AutomaticRule A → AutomaticRule A
  all_unless_filter Nothing = All
  all_unless_filter All = All
  all_unless_filter (Filter rule) = Filter rule

  -- the session with the table attached
  abbrev pub attached : List ℕ → SessionState A → SessionState A
  attached name session = record session { tables = attach name session.tables }

  abbrev pub attach_all : SessionState A → SessionState A
  attach_all session = record session { rule = all_unless_filter session.rule }

  abbrev pub set_filter : Rule → SessionState A → SessionState A
  set_filter rule session = record session { rule = Filter rule }

  -- the session with the flag set to this, or as it is
  abbrev pub enabled_as : Option Bool → SessionState A → SessionState A
  enabled_as asked session = record session { enabled = unwrap_or asked session.enabled }

  abbrev pub indirect_as : Option Bool → SessionState A → SessionState A
  indirect_as asked session = record session { indirect = unwrap_or asked session.indirect }

  -- the records of the table of this name, where it is attached
  abbrev pub records_of : AttachedTables A → List ℕ → Option (Records A)
  records_of tables name = lookup (bytes_eq name) tables

  abbrev pub record_of : AttachedTables A → List ℕ → Fields A → Option (Record A)
  record_of tables name key = option_and_then (λ records. get fields_cmp records key) (records_of tables name)

  -- the number of records
  abbrev pub stored : AttachedTables A → ℕ
  stored tables = sum (map (λ attached. length attached.1) tables)

  abbrev pub forget : AttachedTables A → AttachedTables A
  forget tables = map (λ attached. (attached.0, [])) tables

  -- the session without records; all else stays
  abbrev pub restart : SessionState A → SessionState A
  restart session = record session { tables = forget session.tables }

  -- the session with a setting changed, or its records cleared
  abbrev pub changed_by : SessionChange A → SessionState A → SessionState A
  changed_by AttachAll session = attach_all session
  changed_by (SetFilter rule) session = set_filter rule session
  changed_by (Enable asked) session = enabled_as asked session
  changed_by (Indirect asked) session = indirect_as asked session
  changed_by Restart session = restart session
