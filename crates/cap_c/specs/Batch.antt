-- A batch to begin with.
use Rattle.std.specs.Prelude.{ℕ, [], Option, None}
use Rattle.std.specs.Global.{Global}
use Rattle.cap_txn.specs.Batch.{BatchState}

-- without operations, on this version alone, or on any
abbrev pub batch_on : Option ℕ → BatchState Global
batch_on version = record { base = version; ops = []; reads = None }
