-- Batches one after another, each made whole or not at all.
use Rattle.std.specs.Prelude.{Result, Ok, Err, List, [], ◌∷◌, ◌++◌}
use Rattle.cap_database.specs.Operation.{run}
use Rattle.cap_database.specs.Outcome.{OutcomeState}
use Rattle.cap_database.specs.Tables.{Tables}
use Rattle.cap_database.specs.declared.op.Op.{Op}
use Rattle.cap_database.specs.declared.refused_at.RefusedAt.{RefusedAt}

module _ {A : Type 0} where
  -- an accepted batch comes before the others; a refused one leaves the tables to the others as they were
  abbrev pub batch_then : Tables A → Result (OutcomeState A) RefusedAt → (Tables A → OutcomeState A)
      → OutcomeState A
  batch_then tables (Ok left) others =
      record {
        database = (others left.database).database;
        changes = left.changes
            ++ (others left.database).changes;
      }
  batch_then tables (Err refused) others = others tables

  -- the database after all of them, and the changes of the accepted ones
  abbrev pub batches_left : Tables A → List (List (Op A)) → OutcomeState A
  batches_left tables [] = record { database = tables; changes = [] }
  batches_left tables (batch ∷ batches) =
      batch_then tables (run tables batch) (λ next. batches_left next batches)

  abbrev pub ops_then : Tables A → List (Op A) → Result (OutcomeState A) RefusedAt
      → (Tables A → List (Op A)) → List (Op A)
  ops_then tables batch (Ok left) others = batch ++ others left.database
  ops_then tables batch (Err refused) others = others tables

  -- the operations of the accepted ones, in order
  abbrev pub accepted_ops : Tables A → List (List (Op A)) → List (Op A)
  accepted_ops tables [] = []
  accepted_ops tables (batch ∷ batches) =
      ops_then tables batch (run tables batch) (λ next. accepted_ops next batches)
