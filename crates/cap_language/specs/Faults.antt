-- Refusals as faults of a line.
use Rattle.cap_value.specs.declared.memory.Fault.{Fault}
use Rattle.cap_value.specs.declared.memory.Fault.TheVariants as fault
use Rattle.cap_value.specs.declared.memory.Fault.TheVariants.{Refused}
use Rattle.cap_value.specs.declared.refusal.Refusal.{Refusal}
use Rattle.cap_field.specs.declared.fault.BlobFault.{BlobFault}
use Rattle.cap_language.specs.declared.fault.LineFault.{LineFault}
use Rattle.cap_language.specs.declared.fault.LineFault.TheVariants.{BadBlob, Limit, OutOfMemory}

-- the fault of a token that a limit refuses
abbrev pub limit_fault : Fault Refusal → LineFault
limit_fault (Refused why) = Limit why
limit_fault fault.OutOfMemory = OutOfMemory

-- the fault of a token whose bytes are no blob
abbrev pub blob_fault : Fault BlobFault → LineFault
blob_fault (Refused why) = BadBlob why
blob_fault fault.OutOfMemory = OutOfMemory
