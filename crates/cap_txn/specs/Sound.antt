-- What stands of a transaction, whatever calls were made: its database is what its operations leave of the
-- snapshot's, and its savepoints have numbers that rise.
use Rattle.std.specs.Prelude.{◌≡◌, ℕ, ◌<◌, ◌≤◌, ⊤, Ok, List, [], ◌∷◌, length, take}
use Rattle.std.specs.List.{AllByRecursion}
use Rattle.cap_database.specs.Operation.{run}
use Rattle.cap_database.specs.Outcome.{OutcomeState}
use Rattle.cap_database.specs.Tables.{Tables}
use Rattle.cap_txn.specs.Workspace.{WorkspaceState}
use Rattle.cap_database.specs.declared.op.Op.{Op}
use Rattle.cap_txn.specs.declared.savepoint.Savepoint.{Savepoint}

module _ {A : Type 0} where
  -- the operations are accepted on the one database, and leave the other
  pub record Leaves (base : Tables A) (ops : List (Op A)) (database : Tables A) : Type 0 where
    pub outcome : OutcomeState A
    pub runs : run base ops ≡ Ok outcome
    pub leaves : outcome.database ≡ database

  -- a savepoint's database is what the operations that stood then leave
  pub record IsSavepoint (base : Tables A) (ops : List (Op A)) (savepoint : Savepoint A) : Type 0 where
    pub stood : savepoint.ops ≤ length ops
    pub left : Leaves base (take savepoint.ops ops) savepoint.database

  -- at each savepoint no fewer operations stood than at those before it
  abbrev pub AreInOrder : List (Savepoint A) → Type 0
  AreInOrder [] = ⊤
  AreInOrder (s ∷ savepoints) = AllByRecursion (λ later. s.ops ≤ later.ops) savepoints × AreInOrder savepoints

  -- the numbers of savepoints rise, and are below this one
  abbrev pub AreNumbered : ℕ → List (Savepoint A) → Type 0
  AreNumbered made [] = ⊤
  AreNumbered made (s ∷ savepoints) =
      (s.number < made) × AllByRecursion (λ later. s.number < later.number) savepoints
      × AreNumbered made savepoints

  pub record IsSound (txn : WorkspaceState A) : Type 0 where
    pub left : Leaves txn.base.database txn.ops txn.database
    pub savepoints : AllByRecursion (IsSavepoint txn.base.database txn.ops) txn.savepoints
    pub rising : AreInOrder txn.savepoints
    pub numbers : AreNumbered txn.made txn.savepoints
