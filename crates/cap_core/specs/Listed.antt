-- The live sessions and the tables as they are listed.
use Rattle.std.specs.Prelude.{ℕ, List, length, map, nat_eq}
use Rattle.std.specs.Map.{keys_of}
use Rattle.cap_table.specs.Table.{TableState}
use Rattle.cap_database.specs.Tables.{Tables}
use Rattle.cap_session.specs.Session.{SessionState, stored}
use Rattle.cap_session.specs.Sessions.{NumberedSessions}
use Rattle.cap_core.specs.declared.listed_session.ListedSession.{ListedSession}
use Rattle.cap_core.specs.declared.listed_table.ListedTable.{ListedTable}

module _ {A : Type 0} where
  -- a session with its number: its flags, whether it has no record, and the names of its attached tables
  abbrev pub listed_session : ℕ × SessionState A → ListedSession A
  listed_session numbered = record {
    number = numbered.0;
    enabled = numbered.1.enabled;
    indirect = numbered.1.indirect;
    is_empty = nat_eq (stored numbered.1.tables) 0;
    attached = keys_of numbered.1.tables;
  }

  abbrev pub listed_sessions : NumberedSessions A → List (ListedSession A)
  listed_sessions sessions = map listed_session sessions

  -- a table with its name: its columns, and how many rows it has that have a key, and that have none
  abbrev pub listed_table : List ℕ × TableState A → ListedTable A
  listed_table named = record {
    name = named.0;
    schema = named.1.schema;
    keyed = length named.1.keyed;
    loose = length named.1.loose;
  }

  abbrev pub listed_tables : Tables A → List (ListedTable A)
  listed_tables tables = map listed_table tables
