-- Histories of seats.
use Rattle.std.specs.Prelude.{ℕ, ◌<◌, ◌^◌, List, filter, length, nat_eq, nat_lt, if◌then◌else◌}
use Rattle.cap_core.specs.declared.event.Event.{Event}
use Rattle.cap_core.specs.Answer.{IsLegal}
use Rattle.cap_core.specs.Table.{BlobsFit}

module _ {A : Type 0} where
  -- the events of a seat, in their order
  abbrev pub own : ℕ → List (Event A) → List (Event A)
  own number history = filter (λ event. nat_eq event.by number) history

  -- the history at each moment: legal, with at most 2^63 - 1 events, and each blob that was applied fits its
  -- tables
  pub record IsHistory (history : List (Event A)) : Type 0 where
    pub legal : IsLegal history
    pub few : length history < 2 ^ 63
    pub blobs : BlobsFit history

  -- the longer of two lists; the first where they are as long
  abbrev pub longer : List (Event A) → List (Event A) → List (Event A)
  longer first second = if nat_lt (length first) (length second) then second else first
