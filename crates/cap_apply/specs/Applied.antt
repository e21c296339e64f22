-- The result of applying a blob.
use Rattle.std.specs.Prelude.{List}
use Rattle.cap_database.specs.Tables.{Tables}
use Rattle.cap_database.specs.declared.change.Change.{Change}
use Rattle.cap_apply.specs.Report.{ReportState}

-- the database after it, the changes to its rows, in order, and the report
pub record AppliedState (A : Type 0) : Type 0 where
  pub database : Tables A
  pub changes : List (Change A)
  pub report : ReportState
