-- What accepted operations leave.
use Rattle.std.specs.Prelude.{List}
use Rattle.cap_database.specs.Tables.{Tables}
use Rattle.cap_database.specs.declared.change.Change.{Change}

-- the database after them, and their changes, in order
pub record OutcomeState (A : Type 0) : Type 0 where
  pub database : Tables A
  pub changes : List (Change A)
