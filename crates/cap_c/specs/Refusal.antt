-- The refusal of a command, and a call that is overtaken, as C sees them.
use Rattle.std.specs.Prelude.{ℕ, Option, Some, None}
use Rattle.std.specs.Option.{unwrap_or}
use Rattle.cap_value.specs.declared.refusal.Refusal.{Refusal}
use Rattle.cap_value.specs.declared.refusal.Refusal.TheVariants.{TooLong, BadSchema, WrongWidth, BadColumn}
use Rattle.cap_value.specs.declared.refusal.Refusal.TheVariants.{Duplicate, NoRow, IdsSpent, NoTable}
use Rattle.cap_value.specs.declared.refusal.Refusal.TheVariants.{TableExists, TooMany, Stale, BadFilter}
use Rattle.cap_value.specs.declared.refusal.Refusal.TheVariants.{TooDeep, Incompatible, Aborted, Misuse}
use Rattle.cap_value.specs.declared.refusal.Refusal.TheVariants.{BadName, NoSession, NoDatabase, NoMark}
use Rattle.cap_c.specs.declared.fault.PlacedFault.{PlacedFault}

-- the number of a refusal, as `Refusal` of cap_value has it: E1 to E20
abbrev pub refusal_number : Refusal → ℕ
refusal_number TooLong = 1
refusal_number BadSchema = 2
refusal_number WrongWidth = 3
refusal_number BadColumn = 4
refusal_number Duplicate = 5
refusal_number NoRow = 6
refusal_number IdsSpent = 7
refusal_number NoTable = 8
refusal_number TableExists = 9
refusal_number TooMany = 10
refusal_number (Stale base now item) = 11
refusal_number (BadFilter at) = 12
refusal_number TooDeep = 13
refusal_number Incompatible = 14
refusal_number (Aborted at) = 15
refusal_number (Misuse at) = 16
refusal_number BadName = 17
refusal_number NoSession = 18
refusal_number NoDatabase = 19
refusal_number NoMark = 20

-- the number of the refused operation or change; or of the first item of a transaction that has changed; or 0
abbrev pub place_of : Option ℕ → Refusal → ℕ
place_of at (Stale base now (Some item)) = item
place_of at _ = unwrap_or at 0

abbrev pub refused : Option ℕ → Refusal → PlacedFault
refused at why = record { kind = refusal_number why; at = place_of at why }

-- The history is longer than the one that a call found: its length.
abbrev pub overtaken : ℕ → PlacedFault
overtaken front = record { kind = 0; at = front }

-- Of a text that is no filter: with the byte of the first token that does not fit, or 0.
abbrev pub filter_fault : Refusal → PlacedFault
filter_fault (BadFilter at) = refused (Some at) (BadFilter at)
filter_fault why = refused None why
