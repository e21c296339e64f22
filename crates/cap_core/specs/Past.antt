-- The events so far, and which of them were accepted.
use Rattle.std.specs.Prelude.{ℕ, ◌+◌, ◌<◌, ◌^◌, Bool, true, false, List}
use Rattle.cap_core.specs.declared.event.Event.{Event}
use Rattle.cap_core.specs.declared.reply.Reply.{Reply}
use Rattle.cap_core.specs.declared.reply.Reply.TheVariants as reply

-- one more event may follow this many: a history has at most 2^63 - 1
abbrev pub HasRoom : ℕ → Type 0
HasRoom events = events + 1 < 2 ^ 63

-- the events so far, the newest first
abbrev pub Past : Type 0 → Type 0
Past A = List (Event A)

module _ {A : Type 0} where
  abbrev pub is_accepted : Reply A → Bool
  is_accepted (reply.Refused at why) = false
  is_accepted _ = true
