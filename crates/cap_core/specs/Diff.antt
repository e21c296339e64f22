-- The diff of a table against a saved database (The Session Extension, "sqlite3session_diff").
use Rattle.std.specs.Prelude.{ℕ, Option, Some, None, Result, Ok, Err, List, if◌then◌else◌}
use Rattle.cap_value.specs.Bytes.{bytes_cmp}
use Rattle.cap_value.specs.declared.refusal.Refusal.{Refusal}
use Rattle.cap_value.specs.declared.refusal.Refusal.TheVariants.{NoDatabase}
use Rattle.cap_row.specs.Schema.{has_key}
use Rattle.cap_tree.specs.Tree.{get}
use Rattle.cap_table.specs.Table.{TableState}
use Rattle.cap_database.specs.Tables.{Tables, table_of}
use Rattle.cap_compare.specs.Compare.{compare}
use Rattle.cap_compare.specs.declared.difference.Difference.{Difference}
use Rattle.cap_core.specs.History.{Databases}

module _ {A : Type 0} where
  -- the differences of a comparison
  abbrev pub compared : Result (List (Difference A)) Refusal → Result (Option (List (Difference A))) Refusal
  compared (Ok differences) = Ok (Some differences)
  compared (Err why) = Err why

  abbrev pub diff_from : Option (Tables A) → List ℕ → TableState A
      → Result (Option (List (Difference A))) Refusal
  diff_from None name table = Err NoDatabase
  diff_from (Some from) name table = compared (compare (table_of from name) table)

  -- a table without key columns is not compared
  abbrev pub diff_to : Option (Tables A) → List ℕ → Option (TableState A)
      → Result (Option (List (Difference A))) Refusal
  diff_to from name None = Ok None
  diff_to from name (Some table) = if has_key table.schema then diff_from from name table else Ok None

  -- the differences of a table from the saved database of this name, or none where there is nothing to
  -- compare
  abbrev pub diff : Tables A → Databases A → List ℕ → List ℕ → Result (Option (List (Difference A))) Refusal
  diff main saved from name = diff_to (get bytes_cmp saved from) name (table_of main name)
