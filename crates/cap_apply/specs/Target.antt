-- The table that a group is applied to (The Session Extension, "sqlite3changeset_apply").
use Rattle.std.specs.Prelude.{ℕ, Bool, Option, Some, None, List, length, take, drop, not, ◌&&◌, if◌then◌else◌}
use Rattle.cap_row.specs.Schema.{flags_eq, has_key}
use Rattle.cap_table.specs.Table.{TableState}
use Rattle.cap_database.specs.Tables.{Tables, table_of}

-- the table's first columns are those of the group, and no further one is in the key
abbrev pub columns_fit : List Bool → List Bool → Bool
columns_fit flags schema =
    flags_eq flags (take (length flags) schema) && not (has_key (drop (length flags) schema))

module _ {A : Type 0} where
  abbrev pub fitting : List Bool → Option (TableState A) → Option (TableState A)
  fitting flags None = None
  fitting flags (Some table) = if columns_fit flags table.schema then Some table else None

  -- the table of the name, where the columns fit; without one the group is skipped
  abbrev pub target : Tables A → List ℕ → List Bool → Option (TableState A)
  target tables name flags = fitting flags (table_of tables name)
