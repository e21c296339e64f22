-- The text of what is listed: how many there are, and a line for each.
use Rattle.std.specs.Prelude.{ℕ, Bool, List, ◌∷◌, ◌++◌, codes, decimal, length, if◌then◌else◌}
use Rattle.std.specs.List.{flat_map}
use Rattle.cap_show.specs.Sql.{identifier}
use Rattle.cap_core.specs.declared.listed_session.ListedSession.{ListedSession}
use Rattle.cap_core.specs.declared.listed_table.ListedTable.{ListedTable}

abbrev pub on_word : Bool → List ℕ
on_word flag = if flag then codes "on" else codes "off"

abbrev pub true_word : Bool → List ℕ
true_word flag = if flag then codes "true" else codes "false"

-- the letter of a column, as it is read: `k` in the primary key, and `v` elsewhere
abbrev pub column_letter : Bool → List ℕ
column_letter flag = if flag then codes "k" else codes "v"

-- the columns of a table, a letter for each
abbrev pub columns_text : List Bool → List ℕ
columns_text flags = flat_map column_letter flags

-- a name on a line of its own, after the line before
abbrev pub name_line : List ℕ → List ℕ
name_line name = 10 ∷ identifier name

-- a name after a space
abbrev pub name_behind : List ℕ → List ℕ
name_behind name = codes " " ++ identifier name

-- the saved databases
abbrev pub databases_text : List (List ℕ) → List ℕ
databases_text names = codes "databases " ++ (decimal (length names) ++ flat_map name_line names)

module _ {A : Type 0} where
  -- a session's number, its flags, whether it is empty, and its attached tables
  abbrev pub session_line : ListedSession A → List ℕ
  session_line session =
      10 ∷ (decimal session.number
      ++ (codes " enable " ++ (on_word session.enabled
      ++ (codes " indirect " ++ (on_word session.indirect
      ++ (codes " isempty " ++ (true_word session.is_empty ++ flat_map name_behind session.attached)))))))

  abbrev pub sessions_text : List (ListedSession A) → List ℕ
  sessions_text sessions = codes "sessions " ++ (decimal (length sessions) ++ flat_map session_line sessions)

  -- a table's name and columns, and how many rows it has that have a key, and that have none
  abbrev pub table_line : ListedTable A → List ℕ
  table_line table =
      10 ∷ (identifier table.name
      ++ (codes " " ++ (columns_text table.schema
      ++ (codes " keyed " ++ (decimal table.keyed ++ (codes " loose " ++ decimal table.loose))))))

  abbrev pub tables_text : List (ListedTable A) → List ℕ
  tables_text tables = codes "tables " ++ (decimal (length tables) ++ flat_map table_line tables)
