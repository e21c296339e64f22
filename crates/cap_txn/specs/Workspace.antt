-- What stands of a transaction: the snapshot that it began with, the database, the operations that were not
-- undone, and so with the savepoints.
use Rattle.std.specs.Prelude.{ℕ, ◌+◌, Option, Some, None, Result, Ok, Err, List, [], ◌∷◌, ◌++◌, length, take}
use Rattle.std.specs.Prelude.{nat_lt, ◌==◌, if◌then◌else◌}
use Rattle.cap_value.specs.declared.refusal.Refusal.{Refusal}
use Rattle.cap_value.specs.declared.refusal.Refusal.TheVariants.{TooMany, NoMark}
use Rattle.cap_database.specs.Operation.{step}
use Rattle.cap_database.specs.Snapshot.{SnapshotState}
use Rattle.cap_database.specs.Tables.{Tables}
use Rattle.cap_database.specs.declared.op.Op.{Op}
use Rattle.cap_txn.specs.declared.savepoint.Savepoint.{Savepoint}

-- savepoints stand the oldest first; so many were made, the undone ones too
pub record WorkspaceState (A : Type 0) : Type 0 where
  pub base : SnapshotState A
  pub database : Tables A
  pub ops : List (Op A)
  pub savepoints : List (Savepoint A)
  pub made : ℕ

module _ {A : Type 0} where
  -- nothing was done yet
  abbrev pub begin : SnapshotState A → WorkspaceState A
  begin snapshot =
      record { base = snapshot; database = snapshot.database; ops = []; savepoints = []; made = 0 }

  abbrev pub op_made : WorkspaceState A → Op A → Result (Tables A) Refusal → Result (WorkspaceState A) Refusal
  op_made txn op (Ok next) = Ok (record txn { database = next; ops = txn.ops ++ op ∷ [] })
  op_made txn op (Err why) = Err why

  -- one operation more, on what stands
  abbrev pub after_op : WorkspaceState A → Op A → Result (WorkspaceState A) Refusal
  after_op txn op = op_made txn op (step txn.database op)

  -- at most 10,000 savepoints are made
  abbrev pub refused_savepoint : WorkspaceState A → Option Refusal
  refused_savepoint txn = if nat_lt txn.made 10000 then None else Some TooMany

  abbrev pub savepoint_unless : Option Refusal → WorkspaceState A → Result (WorkspaceState A) Refusal
  savepoint_unless (Some why) txn = Err why
  savepoint_unless None txn =
      Ok (record txn {
        savepoints =
            txn.savepoints
            ++ record { number = txn.made; ops = length txn.ops; database = txn.database } ∷ [];
        made =
            txn.made + 1;
      })

  -- one savepoint more, whose number is how many were made before it
  abbrev pub after_savepoint : WorkspaceState A → Result (WorkspaceState A) Refusal
  after_savepoint txn = savepoint_unless (refused_savepoint txn) txn

  -- the savepoint of a number
  abbrev pub numbered : ℕ → List (Savepoint A) → Option (Savepoint A)
  numbered number [] = None
  numbered number (s ∷ savepoints) = if s.number == number then Some s else numbered number savepoints

  -- the savepoints before the one of a number, and it
  abbrev pub up_to : ℕ → List (Savepoint A) → List (Savepoint A)
  up_to number [] = []
  up_to number (s ∷ savepoints) = if s.number == number then s ∷ [] else s ∷ up_to number savepoints

  abbrev pub back_at : WorkspaceState A → ℕ → Option (Savepoint A) → Result (WorkspaceState A) Refusal
  back_at txn number None = Err NoMark
  back_at txn number (Some s) =
      Ok (record txn {
        database = s.database;
        ops = take s.ops txn.ops;
        savepoints =
            up_to number txn.savepoints;
      })

  -- back to a savepoint, which stays; all later ones are undone
  abbrev pub after_back : WorkspaceState A → ℕ → Result (WorkspaceState A) Refusal
  after_back txn number = back_at txn number (numbered number txn.savepoints)
