-- What the calls on a client leave that are no command.
use Rattle.std.specs.Prelude.{◌≡◌, ◌⊎◌, ℕ, length, Option, Some, None}
use Rattle.cap_history.specs.History.{IsHistory}
use Rattle.cap_hub.specs.declared.fault.JoinFault.{JoinFault}
use Rattle.cap_hub.specs.declared.fault.JoinFault.TheVariants.{Busy, TooMany, OutOfMemory}
use Rattle.cap_connection.specs.Clients.{Joins as IsFurther}
use Rattle.cap_connection.specs.Connection.{ConnectionState}
use Rattle.cap_c.specs.declared.status.TheConstants.{BUSY, CLIENTS, NOMEM, OK}

-- why there is no further client
abbrev pub join_status : JoinFault → ℕ
join_status Busy = BUSY
join_status TooMany = CLIENTS
join_status OutOfMemory = NOMEM

-- A further client of the history is opened, or the status says why not.
abbrev pub Joins : ConnectionState → ℕ → Option ConnectionState → Type 0
Joins of status (Some made) = (status ≡ OK) × IsFurther of made
Joins of status None = (why : JoinFault) × (status ≡ join_status why)

-- A client that is busy stays as it was. Where there is no memory to keep it, it ends without its seat.
abbrev pub Closes : Option ConnectionState → Option ConnectionState → ℕ → Type 0
Closes before (Some has) status = (status ≡ BUSY) × (Some has ≡ before)
Closes before None status = (status ≡ OK) ⊎ (status ≡ NOMEM)

-- two clients are of one history
abbrev pub IsOfOne : ConnectionState → ConnectionState → Type 0
IsOfOne client other = other.client.book ≡ client.client.book

-- the number of events that a client has seen, which are a history
pub record Tallies (client : ConnectionState) (events : ℕ) : Type 0 where
  pub events_is : events ≡ length client.client.state.seen
  pub history : IsHistory client.client.state.seen
