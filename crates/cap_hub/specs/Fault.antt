-- The faults of calls that may be busy.
use Rattle.cap_locked.specs.declared.fault.CallFault.{CallFault}
use Rattle.cap_hub.specs.declared.fault.HubFault.{HubFault}
use Rattle.cap_hub.specs.declared.fault.HubFault.TheVariants.{Busy, Call}

-- another call had the state, and this holds; or the call has a fault, and that holds of it
abbrev pub MatchHubFault : HubFault → Type 0 → (CallFault → Type 0) → Type 0
MatchHubFault Busy busy called = busy
MatchHubFault (Call fault) busy called = called fault
