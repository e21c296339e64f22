-- The rule on the present row of a key, and the hook that is asked where it holds.
use Rattle.std.specs.Prelude.{◌≡◌, Bool, true, false, Option, Some, None, Result, Ok, Err}
use Rattle.cap_value.specs.declared.refusal.Refusal.{Refusal as Why}
use Rattle.cap_value.specs.declared.refusal.Refusal.TheVariants.{Duplicate, NoRow}
use Rattle.cap_table.specs.declared.change_fault.ChangeFault.{ChangeFault}
use Rattle.cap_table.specs.declared.change_fault.ChangeFault.TheVariants.{Refused, OutOfMemory, Vetoed}

-- a new row is refused where its key is taken, and any other change where there is no row
abbrev pub refused_row : {V : Type 0} → Bool → Option V → Option Why
refused_row true (Some row) = Some Duplicate
refused_row true None = None
refused_row false (Some row) = None
refused_row false None = Some NoRow

-- the rule's refusal is the answer, and the caller's hook was not asked; or there is none, and the caller's
-- hook gave the answer
abbrev pub GivesByRule : {E : Type 0} → Option Why → Result (Unit {0}) (ChangeFault E) → Type 0
    → (Result (Unit {0}) E → Type 0) → Type 0
GivesByRule (Some why) answer unasked gives = (answer ≡ Err (Refused why)) × unasked
GivesByRule None (Ok done) unasked gives = gives (Ok tt)
GivesByRule None (Err (Vetoed why)) unasked gives = gives (Err why)
GivesByRule None (Err (Refused why)) unasked gives = ⊥
GivesByRule None (Err OutOfMemory) unasked gives = ⊥
