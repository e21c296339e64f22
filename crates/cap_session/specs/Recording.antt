-- Recording the changes of one commit, or a diff, in a session.
use Rattle.std.specs.Prelude.{ℕ, Bool, true, false, ◌||◌, if◌then◌else◌, Option, None, List, map, fold}
use Rattle.std.specs.List.{filter_map}
use Rattle.std.specs.Option.{option_map}
use Rattle.cap_value.specs.Bytes.{bytes_eq}
use Rattle.cap_database.specs.declared.cause.Cause.{Cause}
use Rattle.cap_database.specs.declared.cause.Cause.TheVariants.{Direct, Cascade}
use Rattle.cap_database.specs.declared.change.Change.{Change}
use Rattle.cap_compare.specs.declared.difference.Difference.{Difference}
use Rattle.cap_session.specs.declared.rule.AutomaticRule.{AutomaticRule}
use Rattle.cap_session.specs.Records.{Touch, with_touches}
use Rattle.cap_session.specs.Session.{AttachedTables, SessionState, accepts_by, attach}

-- a trigger or a foreign key action touches indirectly
abbrev pub is_cascade : Cause → Bool
is_cascade Direct = false
is_cascade Cascade = true

module _ {A : Type 0} where
  -- A change of a row of this table, as a touch of its key: the image is the row that the change carries, in
  -- the first change of a key the row before the commit. A row without a key is never touched.
  abbrev pub touch_of : Bool → List ℕ → Change A → Option (Touch A)
  touch_of indirect name change =
      if bytes_eq name change.table
      then option_map (λ key. record {
        key = key;
        image = change.before;
        indirect = indirect || is_cascade change.cause;
      }) change.key
      else None

  -- the touches of rows of this table
  abbrev pub touches_of : Bool → List ℕ → List (Change A) → List (Touch A)
  touches_of indirect name changes = filter_map (touch_of indirect name) changes

  -- each attached table with the touches of its rows
  abbrev pub touch_tables : Bool → List (Change A) → AttachedTables A → AttachedTables A
  touch_tables indirect changes tables =
      map (λ attached. (attached.0, with_touches attached.1 (touches_of indirect attached.0 changes))) tables

  -- the name is attached where the rule accepts it
  abbrev pub attach_by : AutomaticRule A → AttachedTables A → List ℕ → AttachedTables A
  attach_by rule tables name = if accepts_by rule name then attach name tables else tables

  -- the tables of these changes that the rule accepts are attached, in the order of the changes
  abbrev pub attach_by_rule : AutomaticRule A → List (Change A) → AttachedTables A → AttachedTables A
  attach_by_rule rule changes tables = fold (attach_by rule) tables (map (λ change. change.table) changes)

  -- the session after a commit with these changes
  abbrev pub record_commit : List (Change A) → SessionState A → SessionState A
  record_commit changes session =
      if session.enabled
      then record session {
        tables = touch_tables session.indirect changes (attach_by_rule session.rule changes session.tables);
      }
      else session

  -- the touches by a diff: the image is the row of the table that was compared with, if any
  abbrev pub touches_found : Bool → List (Difference A) → List (Touch A)
  touches_found indirect differences =
      map (λ difference. record { key = difference.key; image = difference.image; indirect = indirect })
      differences

  -- this table after touches, and the others unchanged
  abbrev pub touch_table : List ℕ → List (Touch A) → AttachedTables A → AttachedTables A
  touch_table name touches tables =
      map (λ attached.
      if bytes_eq name attached.0 then (attached.0, with_touches attached.1 touches) else attached) tables

  -- the session after a diff of this table, which is attached whatever the rule, even where the session is
  -- disabled
  abbrev pub record_diff : List ℕ → List (Difference A) → SessionState A → SessionState A
  record_diff name differences session = record session {
    tables = touch_table name (touches_found session.indirect differences) (attach name session.tables);
  }
