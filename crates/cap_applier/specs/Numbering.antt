-- What has which number in a blob of which a filter accepts a part.
use Rattle.std.specs.Prelude.{ℕ, List}
use Rattle.cap_applier.specs.declared.passed.Passed.{Passed}

-- the numbers in the whole blob of the changes and of the groups that are accepted, in order and from 0, and
-- what is passed over
pub record NumberingState : Type 0 where
  pub changes : List ℕ
  pub groups : List ℕ
  pub passed : Passed
