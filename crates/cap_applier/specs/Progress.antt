-- How far an application has come.
use Rattle.std.specs.Prelude.{ℕ, List}
use Rattle.cap_apply.specs.Applied.{AppliedState}

-- What is applied so far, and the numbers of the groups that were passed over. The change that comes next: the
-- number of its group, its place in the group, and its number in the blob.
pub record ProgressState (A : Type 0) : Type 0 where
  pub applied : AppliedState A
  pub passed : List ℕ
  pub group : ℕ
  pub change : ℕ
  pub number : ℕ
