-- The columns of tables, as bytes.
use Rattle.std.specs.Prelude.{◌≤◌, ◌==◌, ℕ, Bool, List, length, map, not}
use Rattle.cap_records.specs.Names.{IsName}

-- 1 to 2,000 columns
pub record AreColumns (key : List ℕ) : Type 0 where
  pub some : 1 ≤ length key
  pub few : length key ≤ 2000

-- a table may have this name and these columns
pub record IsTable (table key : List ℕ) : Type 0 where
  pub named : IsName table
  pub columns : AreColumns key

-- one byte a column, not zero for a column of the key
abbrev pub key_columns : List ℕ → List Bool
key_columns bytes = map (λ byte. not (byte == 0)) bytes
