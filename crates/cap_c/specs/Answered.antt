-- What a call leaves with its caller, by the answer of the library's call. Each status that the header does
-- not name for an output leaves it as it was.
use Rattle.std.specs.Prelude.{◌≡◌, ℕ, Bool, List, [], Option, Some, None, Result, Ok, Err}
use Rattle.std.specs.Prelude.{if◌then◌else◌}
use Rattle.std.specs.Result.{result_map_both, result_unwrap_or}
use Rattle.cap_value.specs.declared.memory.Fault.{Fault}
use Rattle.cap_value.specs.declared.memory.Fault.TheVariants as stop
use Rattle.cap_field.specs.declared.fault.BlobFault.{BlobFault}
use Rattle.cap_apply.specs.declared.policy.Policy.{Policy}
use Rattle.cap_connection.specs.Accepted.{AppliesWith}
use Rattle.cap_connection.specs.Calls.{Applies}
use Rattle.cap_connection.specs.Connection.{ConnectionState}
use Rattle.cap_connection.specs.Iter.{IterState}
use Rattle.cap_connection.specs.Runs.{misused}
use Rattle.cap_applier.specs.declared.passed.Passed.{Passed}
use Rattle.cap_connection.specs.declared.fault.ConnectionFault.{ConnectionFault}
use Rattle.cap_connection.specs.declared.fault.ConnectionFault.TheVariants as fault
use Rattle.cap_connection.specs.declared.replies.Applied.{Applied}
use Rattle.cap_c.specs.Bits.{bit}
use Rattle.cap_c.specs.Fault.{placed, placed_in_text}
use Rattle.cap_c.specs.Handle.{Between, BetweenBoth}
use Rattle.cap_c.specs.Refusal.{filter_fault, overtaken, refused}
use Rattle.cap_c.specs.declared.apply_report.ApplyReport.{ApplyReport}
use Rattle.cap_c.specs.declared.apply_report.PassedOver.{PassedOver}
use Rattle.cap_c.specs.declared.fault.PlacedFault.{PlacedFault}
use Rattle.cap_c.specs.declared.status.TheConstants.{BUSY, COMMAND, FILTER, FULL, MALFORMED, MISUSE, NOMEM}
use Rattle.cap_c.specs.declared.status.TheConstants.{OK, OVERTAKEN, REFUSED}

-- the status of a call on a client that has no answer
abbrev pub fault_status : Fault ConnectionFault → ℕ
fault_status stop.OutOfMemory = NOMEM
fault_status (stop.Refused fault.Misuse) = MISUSE
fault_status (stop.Refused fault.Busy) = BUSY
fault_status (stop.Refused (fault.Overtaken front)) = OVERTAKEN
fault_status (stop.Refused fault.Full) = FULL
fault_status (stop.Refused (fault.Refused at why)) = REFUSED
fault_status (stop.Refused (fault.NoFilter why)) = FILTER
fault_status (stop.Refused (fault.NoCommand why)) = COMMAND

-- the fault that is set then, or what was there before
abbrev pub fault_output : Fault ConnectionFault → PlacedFault → PlacedFault
fault_output (stop.Refused (fault.Refused at why)) old = refused at why
fault_output (stop.Refused (fault.Overtaken front)) old = overtaken front
fault_output (stop.Refused (fault.NoFilter why)) old = filter_fault why
fault_output (stop.Refused (fault.NoCommand why)) old = placed_in_text why
fault_output _ old = old

module _ {X : Type 0} where
  abbrev pub answer_status : Result X (Fault ConnectionFault) → ℕ
  answer_status (Ok x) = OK
  answer_status (Err why) = fault_status why

  abbrev pub answer_fault : Result X (Fault ConnectionFault) → PlacedFault → PlacedFault
  answer_fault (Ok x) old = old
  answer_fault (Err why) old = fault_output why old

  -- The answer opens a closed handle; where there is none it stays closed.
  abbrev pub OpensAnswer : ℕ → Option X → Result X (Fault ConnectionFault) → Type 0
  OpensAnswer status has (Ok x) = (status ≡ OK) × (has ≡ Some x)
  OpensAnswer status has (Err why) = (status ≡ fault_status why) × (has ≡ None)

  -- and the fault
  pub record TellsOpened (status : ℕ) (has : Option X) (old fault : PlacedFault)
      (answer : Result X (Fault ConnectionFault)) : Type 0 where
    pub opened : OpensAnswer status has answer
    pub fault_is : fault ≡ answer_fault answer old

  -- the status and the fault
  pub record Tells (status : ℕ) (old fault : PlacedFault) (answer : Result X (Fault ConnectionFault))
      : Type 0 where
    pub status_is : status ≡ answer_status answer
    pub fault_is : fault ≡ answer_fault answer old

-- and a number
pub record TellsNumber (status old_number number : ℕ) (old fault : PlacedFault)
    (answer : Result ℕ (Fault ConnectionFault)) : Type 0 where
  pub told : Tells status old fault answer
  pub number_is : number ≡ result_unwrap_or answer old_number

abbrev pub flag_output : Result Bool (Fault ConnectionFault) → ℕ → ℕ
flag_output (Ok flag) old = bit flag
flag_output (Err why) old = old

-- and a flag
pub record TellsFlag (status old_flag flag : ℕ) (old fault : PlacedFault)
    (answer : Result Bool (Fault ConnectionFault)) : Type 0 where
  pub told : Tells status old fault answer
  pub flag_is : flag ≡ flag_output answer old_flag

abbrev pub report_output : Result Applied (Fault ConnectionFault) → ApplyReport → ApplyReport
report_output (Ok made) old = record {
  version = made.version;
  applied = made.applied;
  conflicts = made.conflicts;
  omitted = made.omitted;
  skipped = made.skipped;
}
report_output (Err why) old = old

-- and a report
pub record TellsReport (status : ℕ) (old_report report : ApplyReport) (old fault : PlacedFault)
    (answer : Result Applied (Fault ConnectionFault)) : Type 0 where
  pub told : Tells status old fault answer
  pub report_is : report ≡ report_output answer old_report

abbrev pub passed_output : Result (Applied × Passed) (Fault ConnectionFault) → PassedOver → PassedOver
passed_output (Ok made) old = record { groups = made.1.groups; changes = made.1.changes }
passed_output (Err why) old = old

-- and what was passed over
pub record TellsPassed (status : ℕ) (old_report report : ApplyReport) (old_passed passed : PassedOver)
    (old fault : PlacedFault) (answer : Result (Applied × Passed) (Fault ConnectionFault)) : Type 0 where
  pub told : TellsReport status old_report report old fault
      (result_map_both (λ made. made.0) (λ why. why) answer)
  pub passed_is : passed ≡ passed_output answer old_passed

-- whether a command by text is accepted: its reply says why it is not
abbrev pub text_status : Result Bool (Fault ConnectionFault) → ℕ
text_status (Ok accepted) = if accepted then OK else REFUSED
text_status (Err why) = fault_status why

pub record TellsText (status : ℕ) (old fault : PlacedFault) (answer : Result Bool (Fault ConnectionFault))
    : Type 0 where
  pub status_is : status ≡ text_status answer
  pub fault_is : fault ≡ answer_fault answer old

-- whether a piece of a blob was taken: its fault is set where it has one, and then alone
abbrev pub TellsPiece : Result (Unit {0}) (Fault BlobFault) → ℕ → PlacedFault → PlacedFault → Type 0
TellsPiece (Ok taken) status old fault = (status ≡ OK) × (fault ≡ old)
TellsPiece (Err (stop.Refused wrong)) status old fault = (status ≡ MALFORMED) × (fault ≡ placed wrong)
TellsPiece (Err stop.OutOfMemory) status old fault = (status ≡ NOMEM) × (fault ≡ old)

-- An open handle has what the library's call left of what it had, and the outputs are of the call's answer.
abbrev pub Answers : {S R : Type 0} → Option S → Option S → (S → S → R → Type 0) → (R → Type 0) → Type 0
Answers {S} {R} before after calls tells =
    Between before after (λ old new. (answer : R) × calls old new answer × tells answer)

-- the same of two open handles
abbrev pub BothAnswer : {S T R : Type 0} → Option S → Option S → Option T → Option T →
    (S → S → T → T → R → Type 0) → (R → Type 0) → Type 0
BothAnswer {S} {T} {R} before after beside behind calls tells = BetweenBoth before after beside behind
    (λ old new had has. (answer : R) × calls old new had has answer × tells answer)

module _ {X : Type 0} where
  -- the call with what a number means, or misuse where it means nothing
  abbrev pub Given : {N : Type 0} → Option N →
      (N → ConnectionState → ConnectionState → Result X (Fault ConnectionFault) → Type 0) →
      ConnectionState → ConnectionState → Result X (Fault ConnectionFault) → Type 0
  Given (Some meant) calls old new answer = calls meant old new answer
  Given None calls old new answer = (answer ≡ misused) × (new ≡ old)

-- What an iterator was opened on is applied, or misuse where the policy means nothing.
abbrev pub AppliesBy : Option Policy → IterState → IterState → ConnectionState → ConnectionState →
    Result Applied (Fault ConnectionFault) → Type 0
AppliesBy (Some policy) before after old new answer = Applies policy [] before after old new answer
AppliesBy None before after old new answer = (answer ≡ misused) × (new ≡ old) × (after ≡ before)

-- The same of the tables that the filter of a text accepts; the sessions with these numbers stay as they are.
abbrev pub AppliesWithBy : Option Policy → List ℕ → List ℕ → IterState → IterState → ConnectionState →
    ConnectionState → Result (Applied × Passed) (Fault ConnectionFault) → Type 0
AppliesWithBy (Some policy) filter quiet before after old new answer =
    AppliesWith policy filter quiet before after old new answer
AppliesWithBy None filter quiet before after old new answer =
    (answer ≡ misused) × (new ≡ old) × (after ≡ before)
