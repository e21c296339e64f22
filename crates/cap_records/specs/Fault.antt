-- Answers of calls whose arguments are bytes.
use Rattle.std.specs.Prelude.{Bool, true, false, Result, Ok, Err}
use Rattle.cap_value.specs.declared.memory.Fault.{Fault}
use Rattle.cap_value.specs.declared.memory.Fault.TheVariants as fault
use Rattle.cap_value.specs.declared.refusal.Refusal.{Refusal}
use Rattle.cap_field.specs.declared.fault.BlobFault.{BlobFault}
use Rattle.cap_records.specs.declared.fault.RecordFault.{RecordFault}
use Rattle.cap_records.specs.declared.fault.RecordFault.TheVariants.{Misuse, Malformed, Refused}

infixl 10 ◌>>=◌
abbrev pub ◌>>=◌ : {X Y : Type 0} → Result X RecordFault → (X → Result Y RecordFault) → Result Y RecordFault
(Ok x) >>= f = f x
(Err why) >>= f = Err why

-- the answer, where the arguments have a meaning
abbrev pub meant : {X : Type 0} → Bool → Result X RecordFault → Result X RecordFault
meant true answer = answer
meant false answer = Err Misuse

-- what was read, or that the bytes are no such record
abbrev pub malformed : {X : Type 0} → Result X BlobFault → Result X RecordFault
malformed (Ok x) = Ok x
malformed (Err why) = Err (Malformed why)

-- the answer, or a refusal by the rules
abbrev pub refused : {X : Type 0} → Result X Refusal → Result X RecordFault
refused (Ok x) = Ok x
refused (Err why) = Err (Refused why)

-- The call is another one, and has its answer, with a refusal by the rules handed on.
abbrev pub HandsOn : {X : Type 0} → (Result X (Fault Refusal) → Type 0) → Result X (Fault RecordFault) →
    Type 0
HandsOn call (Ok x) = call (Ok x)
HandsOn call (Err fault.OutOfMemory) = call (Err fault.OutOfMemory)
HandsOn call (Err (fault.Refused (Refused why))) = call (Err (fault.Refused why))
HandsOn call (Err (fault.Refused why)) = ⊥
