-- Seats whose calls are those that are counted.
use Rattle.std.specs.Prelude.{◌≡◌, ℕ, ◌<◌, List, length, slice_index}
use mathlib.Core.List.{IsPrefix}
use Rattle.cap_history.specs.Seat.{IsAnswered, SeatState, calls}

module _ {A : Type 0} where
  -- a seat of this many, whose last call is in what it has seen, has as many calls as are counted
  pub record Agrees (seats : ℕ) (counts : List ℕ) (seat : SeatState A) : Type 0 where
    pub known : seat.number < seats
    pub begins : IsPrefix seat.answered seat.seen
    pub ends : IsAnswered seat.number seat.answered
    pub counted : slice_index counts seat.number ≡ length (calls seat)
