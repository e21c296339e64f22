-- Why a change with a commit hook was not made.
use Rattle.std.specs.Prelude.{◌≡◌, Option, Some, None, Result, Err}
use Rattle.cap_table.specs.declared.change_fault.ChangeFault.{ChangeFault}
use Rattle.cap_table.specs.declared.change_fault.ChangeFault.TheVariants.{Refused, OutOfMemory, Vetoed}
use Rattle.cap_value.specs.declared.refusal.Refusal.{Refusal}

-- the rules refuse it, or it ran out of memory, or the hook refused it, and this holds of each
abbrev pub MatchChangeFault : {E : Type 0} → ChangeFault E → (Refusal → Type 0) → Type 0 → (E → Type 0) → Type 0
MatchChangeFault (Refused why) refused none vetoed = refused why
MatchChangeFault OutOfMemory refused none vetoed = none
MatchChangeFault (Vetoed why) refused none vetoed = vetoed why

-- where a refusal is known before memory is needed, the call gives just it
abbrev pub RefusesAtOnce : {X E : Type 0} → Option Refusal → Result X (ChangeFault E) → Type 0
RefusesAtOnce None result = Unit {0}
RefusesAtOnce (Some why) result = result ≡ Err (Refused why)
