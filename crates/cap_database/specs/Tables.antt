-- A database: its tables by name, in the order of the names.
use Rattle.std.specs.Prelude.{ℕ, ◌≤◌, Option, Some, None, Result, Ok, Err, Bool, List, IsTrue, length}
use Rattle.std.specs.Prelude.{is_some, nat_lt, if◌then◌else◌}
use Rattle.std.specs.FinMap.Entries.{is_sorted}
use Rattle.std.specs.List.{AllByRecursion}
use Rattle.std.specs.Option.{option_map}
use Rattle.cap_value.specs.Bytes.{bytes_cmp}
use Rattle.cap_value.specs.declared.refusal.Refusal.{Refusal}
use Rattle.cap_value.specs.declared.refusal.Refusal.TheVariants.{TableExists, TooMany}
use Rattle.cap_tree.specs.Tree.{IsOrdered, get, put_entry}
use Rattle.cap_table.specs.Table.{TableState}
use Rattle.cap_table.specs.Operation.{empty_table}
use Rattle.cap_table.specs.Sound.{IsRising}

abbrev pub Tables : Type 0 → Type 0
Tables A = List (List ℕ × TableState A)

module _ {A : Type 0} where
  -- in each table keys and ids rise, and each row is where it belongs
  abbrev pub EachRises : Tables A → Type 0
  EachRises tables = AllByRecursion (λ named. IsRising named.1) tables

  -- the names rise, there are at most 64, and so is each table
  pub record AreTables (tables : Tables A) : Type 0 where
    pub ordered : IsOrdered bytes_cmp tables
    pub few : length tables ≤ 64
    pub each : EachRises tables

  abbrev pub table_of : Tables A → List ℕ → Option (TableState A)
  table_of tables name = get bytes_cmp tables name

  -- the columns of a table
  abbrev pub schema_of : Tables A → List ℕ → Option (List Bool)
  schema_of tables name = option_map (λ table. table.schema) (table_of tables name)

  -- names, keys and ids rise, and each row is where it belongs
  pub record AreRising (tables : Tables A) : Type 0 where
    pub names : IsTrue (is_sorted bytes_cmp tables)
    pub each : EachRises tables

  -- what a new table is refused
  abbrev pub refused_create : Tables A → List ℕ → Option Refusal
  refused_create tables name =
      if is_some (table_of tables name) then Some TableExists
      else (if nat_lt (length tables) 64 then None else Some TooMany)

  abbrev pub created : Option Refusal → Tables A → List ℕ → List Bool → Result (Tables A) Refusal
  created None tables name schema = Ok (put_entry bytes_cmp tables name (empty_table schema))
  created (Some why) tables name schema = Err why

  -- a new table without rows
  abbrev pub create : Tables A → List ℕ → List Bool → Result (Tables A) Refusal
  create tables name schema = created (refused_create tables name) tables name schema
