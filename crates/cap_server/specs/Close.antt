-- The state of a closed server, and missing seats.
use Rattle.std.specs.Prelude.{◌≡◌, ◌≢◌, ◌⊎◌, ℕ, ◌<◌, Some, List, [], All, Any, length, slice_get, slice_set}
use mathlib.Core.List.{IsPrefix}
use Rattle.cap_core.specs.declared.event.Event.{Event}
use Rattle.cap_core.specs.Answer.{State, IsLegal, state}
use Rattle.cap_core.specs.Table.{BlobsFit}
use Rattle.cap_history.specs.History.{own}
use Rattle.cap_history.specs.Seat.{SeatState, calls}
use Rattle.cap_locked.specs.Fault.{HasCalls}
use Rattle.cap_server.specs.declared.fault.CloseFault.{CloseFault}
use Rattle.cap_server.specs.declared.fault.CloseFault.TheVariants.{MissingSeat, Overtaken}

-- a fact for each of the two faults, of its number or its count
abbrev pub MatchCloseFault : CloseFault → (ℕ → Type 0) → (ℕ → Type 0) → Type 0
MatchCloseFault (MissingSeat number) missing overtaken = missing number
MatchCloseFault (Overtaken front) missing overtaken = overtaken front

module _ {A : Type 0} where
  -- the seat with this number has this index
  pub record StandsAt (seats : List (SeatState A)) (number place : ℕ) : Type 0 where
    pub seat : SeatState A
    pub at : slice_get seats place ≡ Some seat
    pub is : seat.number ≡ number

  -- no seat has the number
  abbrev pub IsMissing : List (SeatState A) → ℕ → Type 0
  IsMissing seats number = (place : ℕ) → ¬ StandsAt seats number place

  -- each number below the count is a seat's
  abbrev pub HasAll : List (SeatState A) → ℕ → Type 0
  HasAll seats count = (number : ℕ) → number < count → (place : ℕ) × StandsAt seats number place

  -- One legal history, whose blobs fit, has exactly the calls of these seats, each seat's in order, extends
  -- what each of them had seen, and has the core as its state.
  pub record IsClosed (seats : List (SeatState A)) (events : ℕ) (core : State A) : Type 0 where
    pub history : List (Event A)
    pub legal : IsLegal history
    pub blobs : BlobsFit history
    pub events_are : length history ≡ events
    pub core_is : core ≡ state history
    pub seen : All (λ seat. IsPrefix seat.seen history) seats
    pub own_calls : All (λ seat. own seat.number history ≡ calls seat) seats
    pub no_others : (number : ℕ) → IsMissing seats number → own number history ≡ []

  -- The first seat has seen a history of this length, which extends what each seat had seen, and this
  -- history. The other seats are unchanged.
  pub record FirstHasSeen (old new : List (SeatState A)) (least : List (Event A)) (front : ℕ) : Type 0 where
    pub place : ℕ
    pub first : StandsAt old 0 place
    pub history : List (Event A)
    pub legal : IsLegal history
    pub blobs : BlobsFit history
    pub front_is : length history ≡ front
    pub seen : All (λ seat. IsPrefix seat.seen history) old
    pub begins : IsPrefix least history
    pub seats : new ≡ slice_set old place (record first.seat { seen = history })

  -- Why a close is overtaken, where this history stood under the lock: it has each seat's calls, and the
  -- history is longer by now, or it has not just the calls of one of them.
  abbrev pub WasOvertaken : List (SeatState A) → List (Event A) → ℕ → Type 0
  WasOvertaken seats locked front =
      (All (λ seat. HasCalls seat locked) seats × (length locked < front))
      ⊎ Any (λ seat. length (own seat.number locked) ≢ length (calls seat)) seats

  -- the same, whatever history stood there, which the first seat has then seen with what the seats had seen
  abbrev pub ClosesOvertaken : List (SeatState A) → List (SeatState A) → ℕ → Type 0
  ClosesOvertaken old new front =
      (locked : List (Event A)) × FirstHasSeen old new locked front × WasOvertaken old locked front
