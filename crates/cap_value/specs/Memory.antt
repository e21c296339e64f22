-- Calls that the rules may refuse, and that may run out of memory.
use Rattle.std.specs.Prelude.{◌≡◌, Option, Some, None, Result, Ok, Err}
use Rattle.cap_value.specs.declared.memory.Fault.{Fault}
use Rattle.cap_value.specs.declared.memory.Fault.TheVariants.{Refused, OutOfMemory}

-- the call gives just this answer, refusals among them, unless it ran out of memory
abbrev pub AnswersUnlessMemory : {X E : Type 0} → Result X (Fault E) → Result X E → Type 0
AnswersUnlessMemory (Ok x) answer = answer ≡ Ok x
AnswersUnlessMemory (Err (Refused e)) answer = answer ≡ Err e
AnswersUnlessMemory (Err OutOfMemory) answer = Unit {0}

-- the refusal is this answer; when out of memory the answer is not known
abbrev pub RefusesUnlessMemory : {Y E : Type 0} → Fault E → Result Y E → Type 0
RefusesUnlessMemory (Refused e) answer = answer ≡ Err e
RefusesUnlessMemory OutOfMemory answer = Unit {0}

-- the answer is what the call gave, seen by `view`, or its refusal
abbrev pub ShowsUnlessMemory : {X Y E : Type 0} → (X → Y) → Result X (Fault E) → Result Y E → Type 0
ShowsUnlessMemory view (Ok x) answer = answer ≡ Ok (view x)
ShowsUnlessMemory view (Err fault) answer = RefusesUnlessMemory fault answer

-- the answer, which may be a refusal too, is what follows from what the call gave, or the call's refusal
abbrev pub LeadsUnlessMemory : {X Y E : Type 0} → (X → Result Y E) → Result X (Fault E) → Result Y E → Type 0
LeadsUnlessMemory next (Ok x) answer = answer ≡ next x
LeadsUnlessMemory next (Err fault) answer = RefusesUnlessMemory fault answer

-- a call that changes a value in place left just this value, or gave just this refusal, unless it ran out
-- of memory
abbrev pub LeavesUnlessMemory : {X S E : Type 0} → Result X (Fault E) → Result S E → S → Type 0
LeavesUnlessMemory (Ok x) answer left = answer ≡ Ok left
LeavesUnlessMemory (Err (Refused e)) answer left = answer ≡ Err e
LeavesUnlessMemory (Err OutOfMemory) answer left = Unit {0}

-- where a refusal is known before memory is needed, the call gives just it
abbrev pub RefusesFirst : {X E : Type 0} → Option E → Result X (Fault E) → Type 0
RefusesFirst None result = Unit {0}
RefusesFirst (Some why) result = result ≡ Err (Refused why)

-- it ran out of memory, and this holds; or the call was refused, and that holds of the refusal
abbrev pub MatchFault : {E : Type 0} → Fault E → Type 0 → (E → Type 0) → Type 0
MatchFault (Refused e) none refused = refused e
MatchFault OutOfMemory none refused = none
