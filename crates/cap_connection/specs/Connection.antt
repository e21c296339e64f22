-- What a connection has.
use Rattle.std.specs.Prelude.{ℕ, List}
use Rattle.std.specs.Global.{Global}
use Rattle.cap_history.specs.Seen.{Seated}

-- Its client, with the book that says which history it is, and the text of the last reply to a command as
-- text.
pub record ConnectionState : Type 0 where
  pub client : Seated Global
  pub output : List ℕ
