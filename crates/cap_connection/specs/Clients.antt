-- What the calls on a connection that are no command answer, and what they leave.
use Rattle.std.specs.Prelude.{◌≡◌, ℕ, [], length}
use mathlib.Core.List.{IsPrefix}
use Rattle.cap_history.specs.History.{longer}
use Rattle.cap_history.specs.Seat.{SeesMore, newcomer}
use Rattle.cap_connection.specs.Connection.{ConnectionState}

-- the first client of an empty history, before any reply
pub record Opens (made : ConnectionState) : Type 0 where
  pub state : made.client.state ≡ newcomer 0
  pub output : made.output ≡ []

-- A further client of the same history, which has seen what this one has, before any reply to a command as
-- text.
pub record Joins (old made : ConnectionState) : Type 0 where
  pub history : made.client.book ≡ old.client.book
  pub seen : IsPrefix old.client.state.seen made.client.state.seen
  pub output : made.output ≡ []

-- The client may have seen more of its history, and has made no call. Nothing else has changed.
pub record Sees (old new : ConnectionState) : Type 0 where
  pub history : new.client.book ≡ old.client.book
  pub seen : SeesMore old.client.state new.client.state
  pub output : new.output ≡ old.output

-- It has seen the whole history, which has this many events.
pub record Looks (old new : ConnectionState) (front : ℕ) : Type 0 where
  pub sees : Sees old new
  pub front_is : front ≡ length new.client.state.seen

-- It has seen what the other client has, too.
pub record Meets (old other new : ConnectionState) : Type 0 where
  pub sees : Sees old new
  pub both : new.client.state.seen ≡ longer old.client.state.seen other.client.state.seen
  pub met : IsPrefix other.client.state.seen new.client.state.seen
