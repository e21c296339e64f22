use Rattle.std.proofs.Common.{◌≡◌, Ok, take}
use Rattle.cap_database.specs.Operation.{run}
use Rattle.cap_database.proofs.run.run_ops.Given as goal

abbrev pub invariant-loop-at : goal.invariant-loop-at
invariant-loop-at g l = run l.database (take l.at l.ops) ≡ Ok (record { database = l.next; changes = l.changes.items })
