-- What one call at a time has of a server.
use Rattle.std.specs.Prelude.{ℕ, List}
use Rattle.logbook.specs.Pages.{Book}
use Rattle.cap_core.specs.declared.event.Event.{Event}

-- a history, the book that says which one it is, and the number of seats that call
pub record LockedState (A : Type 0) : Type 0 where
  pub book : Book
  pub log : List (Event A)
  pub seats : ℕ
