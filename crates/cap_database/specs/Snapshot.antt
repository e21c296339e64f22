-- A snapshot: a database and its version.
use Rattle.std.specs.Prelude.{ℕ}
use Rattle.cap_database.specs.Tables.{Tables}

pub record SnapshotState (A : Type 0) : Type 0 where
  pub version : ℕ
  pub database : Tables A
