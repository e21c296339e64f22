-- What was seen of a history, with the book that says which history it is.
use Rattle.std.specs.Prelude.{ℕ, List, map}
use Rattle.std.specs.List.{range_with_len}
use Rattle.logbook.specs.Pages.{Book}
use Rattle.cap_core.specs.declared.event.Event.{Event}
use Rattle.cap_history.specs.Seat.{SeatState, newcomer}

-- the events of a history that a list has
pub record ListState (A : Type 0) : Type 0 where
  pub book : Book
  pub log : List (Event A)

-- a seat of a history
pub record Seated (A : Type 0) : Type 0 where
  pub book : Book
  pub state : SeatState A

module _ {A : Type 0} where
  -- a new seat of a history
  abbrev pub newcomer_of : Book → ℕ → Seated A
  newcomer_of book number = record { book = book; state = newcomer number }
