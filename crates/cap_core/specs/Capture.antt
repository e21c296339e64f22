-- What a session captures (The Session Extension, "sqlite3session_changeset").
use Rattle.std.specs.Prelude.{ℕ, Bool, Option, Some, None, List, length, ◌==◌, if◌then◌else◌}
use Rattle.std.specs.List.{filter_map}
use Rattle.cap_row.specs.Fields.{Fields}
use Rattle.cap_row.specs.Key.{fields_cmp}
use Rattle.cap_tree.specs.Tree.{get}
use Rattle.cap_changes.specs.Group.{TableChanges}
use Rattle.cap_changes.specs.declared.row_change.RowChange.{RowChange}
use Rattle.cap_changes.specs.Change.{change_of}
use Rattle.cap_table.specs.Table.{TableState}
use Rattle.cap_database.specs.Tables.{Tables, table_of}
use Rattle.cap_session.specs.Records.{Records}
use Rattle.cap_session.specs.Session.{AttachedTables, SessionState}
use Rattle.cap_session.specs.declared.record.Record.{Record}

module _ {A : Type 0} where
  -- the change of one touched key, from its first image to the row now
  abbrev pub change_now : TableState A → Fields A × Record A → Option (RowChange A)
  change_now table touched =
      change_of table.schema touched.1.indirect touched.1.image (get fields_cmp table.keyed touched.0)

  -- the changes of a table, where there are any
  abbrev pub group_of : List ℕ → List Bool → List (RowChange A) → Option (TableChanges A)
  group_of name schema changes =
      if length changes == 0 then None else Some (record { table = name; schema = schema; changes = changes })

  -- the changes of an attached table
  abbrev pub table_changes : List ℕ × Records A → Option (TableState A) → Option (TableChanges A)
  table_changes attached None = None
  table_changes attached (Some table) =
      group_of attached.0 table.schema (filter_map (change_now table) attached.1)

  -- the changes of attached tables, in order, without those that have no change
  abbrev pub changes_of : Tables A → AttachedTables A → List (TableChanges A)
  changes_of tables attached = filter_map (λ table. table_changes table (table_of tables table.0)) attached

  -- the changes of a session
  abbrev pub session_changes : Tables A → SessionState A → List (TableChanges A)
  session_changes tables session = changes_of tables session.tables

-- a capture: the version of the tables at its moment, and the changes
pub record CaptureState (A : Type 0) : Type 0 where
  pub version : ℕ
  pub changes : List (TableChanges A)
