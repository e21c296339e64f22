-- A table: its columns, the rows that have a key, the others by their ids, and the id that is given next.
use Rattle.std.specs.Prelude.{ℕ, Bool, List}
use Rattle.cap_row.specs.Fields.{Fields}

-- keyed rows are in the order of their keys, loose rows in the order of their ids
pub record TableState (A : Type 0) : Type 0 where
  pub schema : List Bool
  pub keyed : List (Fields A × Fields A)
  pub loose : List (ℕ × Fields A)
  pub next_id : ℕ
