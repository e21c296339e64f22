-- What an interpreter holds.
use Rattle.std.specs.Prelude.{Option}
use Rattle.cap_core.specs.Answer.{State}
use Rattle.cap_interpreter.specs.declared.held.Open.{Open}

-- the server, and the transaction or the application that is open
pub record InterpreterState (A : Type 0) : Type 0 where
  pub core : State A
  pub txn : Option (Open A)
