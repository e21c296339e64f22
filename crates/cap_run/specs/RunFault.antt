-- How a run ends.
use Rattle.std.specs.Prelude.{◌≡◌, ◌⊎◌, ℕ, List, Bool, true, false, Result, Ok, Err}
use Rattle.cap_value.specs.declared.memory.Fault.{Fault}
use Rattle.cap_value.specs.declared.memory.Fault.TheVariants as memory
use Rattle.cap_run.specs.declared.fault.RunFault.{RunFault}
use Rattle.cap_run.specs.declared.fault.RunFault.TheVariants.{Script, NotUtf8, NotHex, Blob, Call, Read}
use Rattle.cap_run.specs.declared.fault.RunFault.TheVariants.{Write, OutOfMemory, Close, Patchset, BlobList}
use Rattle.cap_script.specs.FirstRefused.{IsFirstRefused}

-- the exit status: 1 where the input is refused, and 3 where a call, a read, a write or the closing of the
-- server failed, or out of memory
abbrev pub exit_status : RunFault → ℕ
exit_status (Script fault) = 1
exit_status NotUtf8 = 1
exit_status NotHex = 1
exit_status (Blob fault) = 1
exit_status Patchset = 1
exit_status (BlobList fault) = 1
exit_status (Call fault) = 3
exit_status Read = 3
exit_status Write = 3
exit_status OutOfMemory = 3
exit_status Close = 3

-- the input was not read to its end
abbrev pub IsUnread : RunFault → Type 0
IsUnread fault = (fault ≡ Read) ⊎ (fault ≡ OutOfMemory)

-- whether a read failed
abbrev pub is_read : RunFault → Bool
is_read Read = true
is_read fault = false

-- whether the text spells no workload
abbrev pub is_script : RunFault → Bool
is_script (Script fault) = true
is_script fault = false

-- A text is refused at its first line that spells no command within the limits. Lines are counted from 1.
abbrev pub IsOfText : (A : Type 0) → RunFault → List ℕ → Type 0
IsOfText A (Script why) text = IsFirstRefused A 1 why text
IsOfText A fault text = Unit {0}

-- the text is refused, or the input was not read to its end
abbrev pub IsNoWorkload : RunFault → Type 0
IsNoWorkload fault = (is_script fault ≡ true) ⊎ (fault ≡ NotUtf8) ⊎ IsUnread fault

-- nothing was run
abbrev pub RunsNothing : RunFault → Type 0
RunsNothing (Call fault) = ⊥
RunsNothing Write = ⊥
RunsNothing Close = ⊥
RunsNothing fault = Unit {0}

-- the text spells no workload, or memory ran out
abbrev pub IsUnspelled : RunFault → Type 0
IsUnspelled (Script fault) = Unit {0}
IsUnspelled OutOfMemory = Unit {0}
IsUnspelled fault = ⊥

-- the fault of a run whose input is refused, or out of memory
abbrev pub input_fault : Fault RunFault → RunFault
input_fault (memory.Refused fault) = fault
input_fault memory.OutOfMemory = OutOfMemory

-- what follows from this, or its fault
abbrev pub after : {X Y : Type 0} → Result X RunFault → (X → Result Y RunFault) → Result Y RunFault
after (Ok x) next = next x
after (Err fault) next = Err fault
