-- The changes of one table, of a changeset or of a patchset.
use Rattle.std.specs.Prelude.{ℕ, Bool, List, IsTrue, All}
use Rattle.cap_row.specs.Schema.{has_key}

-- the table's name, its key flags, and its changes in order
pub record TableEntries (X : Type 0) : Type 0 where
  pub table : List ℕ
  pub schema : List Bool
  pub changes : List X

-- each fits a table with these key flags
abbrev pub AllFit : {X : Type 0} → (List Bool → X → Bool) → List Bool → List X → Type 0
AllFit fits flags xs = All (λ x. IsTrue (fits flags x)) xs

-- a key column is among the table's, and each entry fits the table
pub record IsFitting {X : Type 0} (fits : List Bool → X → Bool) (group : TableEntries X) : Type 0 where
  pub keyed : IsTrue (has_key group.schema)
  pub each : AllFit fits group.schema group.changes

abbrev pub AreFitting : {X : Type 0} → (List Bool → X → Bool) → List (TableEntries X) → Type 0
AreFitting fits groups = All (λ group. IsFitting fits group) groups
