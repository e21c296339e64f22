-- The seats that no client has.
use Rattle.std.specs.Prelude.{◌≡◌, ◌<◌, Option, IfSome}
use Rattle.logbook.specs.Pages.{Book}
use Rattle.cap_history.specs.Seen.{Seated}

module _ {A : Type 0} where
  -- a seat of a history, of which there are 64
  abbrev pub IsSeatOf : Book → Seated A → Type 0
  IsSeatOf book seat = (seat.book ≡ book) × (seat.state.number < 64)

  -- a place is empty, or has a seat of the history
  abbrev pub IsFree : Book → Option (Seated A) → Type 0
  IsFree book place = IfSome place (IsSeatOf book)
