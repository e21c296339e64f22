-- The operations in front of a refused one.
use Rattle.std.specs.Prelude.{◌≡◌, Ok, Err, List, ◌∷◌, ◌++◌, length}
use Rattle.cap_database.specs.Operation.{run, step}
use Rattle.cap_database.specs.Outcome.{OutcomeState}
use Rattle.cap_database.specs.Tables.{Tables}
use Rattle.cap_database.specs.declared.op.Op.{Op}
use Rattle.cap_database.specs.declared.refused_at.RefusedAt.{RefusedAt}

module _ {A : Type 0} where
  -- the operations in front are accepted, and the one at this place is refused so on what they leave
  pub record IsFirstRefused (tables : Tables A) (ops : List (Op A)) (refused : RefusedAt) : Type 0 where
    pub front : List (Op A)
    pub op : Op A
    pub back : List (Op A)
    pub left : OutcomeState A
    pub parts : ops ≡ front ++ op ∷ back
    pub place : refused.at ≡ length front
    pub accepted : run tables front ≡ Ok left
    pub refuses : step left.database op ≡ Err refused.why
