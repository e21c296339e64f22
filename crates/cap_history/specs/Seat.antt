-- What a seat has seen of the history, and its own calls.
use Rattle.std.specs.Prelude.{◌≡◌, ◌⊎◌, ℕ, List, [], ◌∷◌, ◌++◌, map}
use Rattle.std.specs.List.{range_with_len}
use mathlib.Core.List.{IsPrefix}
use Rattle.cap_core.specs.declared.command.Command.{Command}
use Rattle.cap_core.specs.declared.event.Event.{Event}
use Rattle.cap_core.specs.declared.reply.Reply.{Reply}
use Rattle.cap_core.specs.Answer.{IsLegal, event_by}
use Rattle.cap_core.specs.Table.{BlobsFit}
use Rattle.cap_history.specs.History.{own}

-- a seat's number, the history that it has seen, and the history that it had seen after its last call
pub record SeatState (A : Type 0) : Type 0 where
  pub number : ℕ
  pub seen : List (Event A)
  pub answered : List (Event A)

module _ {A : Type 0} where
  -- the seat's answered calls, in order
  abbrev pub calls : SeatState A → List (Event A)
  calls seat = own seat.number seat.answered

  -- a history whose last event is the seat's
  pub record EndsWithOwn (number : ℕ) (history : List (Event A)) : Type 0 where
    pub before : List (Event A)
    pub command : Command A
    pub reply : Reply A
    pub is : history ≡ before ++ event_by number command reply ∷ []

  -- what a seat had seen after its last call ends with that call; before the first call it is nothing
  abbrev pub IsAnswered : ℕ → List (Event A) → Type 0
  IsAnswered number answered = (answered ≡ []) ⊎ EndsWithOwn number answered

  -- a new seat
  abbrev pub newcomer : ℕ → SeatState A
  newcomer number = record { number = number; seen = []; answered = [] }

  -- this many new seats, numbered from 0
  abbrev pub newcomers : ℕ → List (SeatState A)
  newcomers count = map newcomer (range_with_len 0 count)

  -- a seat may have seen more, and has made no call; what it has seen is legal, and its blobs fit
  pub record SeesMore (old new : SeatState A) : Type 0 where
    pub number : new.number ≡ old.number
    pub answered : new.answered ≡ old.answered
    pub seen : IsPrefix old.seen new.seen
    pub legal : IsLegal new.seen
    pub blobs : BlobsFit new.seen

  -- A call of the seat has a reply. The history that it then has seen is legal, its blobs fit, it extends
  -- what the seat had seen, and ends with the call. No event between is the seat's, so its calls are the
  -- earlier ones and this one.
  pub record HasCalled (old new : SeatState A) (command : Command A) (reply : Reply A) : Type 0 where
    pub number : new.number ≡ old.number
    pub legal : IsLegal new.seen
    pub blobs : BlobsFit new.seen
    pub seen : (others : List (Event A))
        × (new.seen ≡ old.seen ++ others ++ event_by old.number command reply ∷ [])
        × (own old.number others ≡ [])
    pub calls : own new.number new.seen ≡ calls old ++ event_by old.number command reply ∷ []
    pub answered : new.answered ≡ new.seen
