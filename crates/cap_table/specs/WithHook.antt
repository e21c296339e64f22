-- Changes with a hook.
use Rattle.std.specs.Prelude.{◌≡◌, Result, Ok, Err, IsOk}
use Rattle.cap_value.specs.declared.refusal.Refusal.{Refusal as Why}
use Rattle.cap_table.specs.declared.change_fault.ChangeFault.{ChangeFault}
use Rattle.cap_table.specs.declared.change_fault.ChangeFault.TheVariants.{Refused, OutOfMemory, Vetoed}

-- The hook allowed it and the call left just this value; or the hook was not asked, and the rules give just
-- this refusal or it ran out of memory; or the rules accept it, and the hook refused.
abbrev pub LeavesIfAllowed : {S E : Type 0} → Result (Unit {0}) (ChangeFault E) → Result S Why → S → Type 0
    → (Result (Unit {0}) E → Type 0) → Type 0
LeavesIfAllowed (Ok done) answer left unasked gives = (answer ≡ Ok left) × gives (Ok tt)
LeavesIfAllowed (Err (Refused why)) answer left unasked gives = (answer ≡ Err why) × unasked
LeavesIfAllowed (Err OutOfMemory) answer left unasked gives = unasked
LeavesIfAllowed (Err (Vetoed why)) answer left unasked gives = IsOk answer × gives (Err why)
