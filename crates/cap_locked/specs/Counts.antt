-- The number of events of each seat.
use Rattle.std.specs.Prelude.{◌≡◌, ℕ, ◌<◌, ◌≤◌, List, [], length, slice_index}
use Rattle.cap_core.specs.declared.event.Event.{Event}
use Rattle.cap_history.specs.History.{own}

module _ {A : Type 0} where
  -- the counts of this many seats, at least one, and no event of another
  pub record IsCounted (seats : ℕ) (counts : List ℕ) (history : List (Event A)) : Type 0 where
    pub some : 0 < seats
    pub long : length counts ≡ seats
    pub each : (number : ℕ) → number < seats → slice_index counts number ≡ length (own number history)
    pub others : (number : ℕ) → seats ≤ number → own number history ≡ []
