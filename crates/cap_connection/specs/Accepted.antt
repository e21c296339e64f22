-- An application to the tables that a filter accepts.
use Rattle.std.specs.Prelude.{◌≡◌, ℕ, List, Option, Some, None, Result, Ok, Err}
use Rattle.std.specs.Option.{option_map}
use Rattle.std.specs.Result.{result_map_both}
use Rattle.cap_value.specs.declared.memory.Fault.{Fault}
use Rattle.cap_value.specs.declared.memory.Fault.TheVariants as stop
use Rattle.cap_value.specs.declared.refusal.Refusal.{Refusal}
use Rattle.cap_value.specs.declared.refusal.Refusal.TheVariants.{Aborted, Misuse}
use Rattle.cap_filter.specs.Rule.{Rule}
use Rattle.cap_applier.specs.Chosen.{accepted_in, number_in_blob, numbering_in}
use Rattle.cap_applier.specs.declared.passed.Passed.{Passed}
use Rattle.cap_apply.specs.declared.policy.Policy.{Policy}
use Rattle.cap_connection.specs.Application.{filter_in}
use Rattle.cap_connection.specs.Calls.{AppliesQuiet}
use Rattle.cap_connection.specs.Connection.{ConnectionState}
use Rattle.cap_connection.specs.Iter.{IterState, begin}
use Rattle.cap_connection.specs.Runs.{Spoils}
use Rattle.cap_connection.specs.declared.application.ApplicationFault.{ApplicationFault}
use Rattle.cap_connection.specs.declared.application.ApplicationFault.TheVariants as wrong
use Rattle.cap_connection.specs.declared.fault.ConnectionFault.{ConnectionFault}
use Rattle.cap_connection.specs.declared.fault.ConnectionFault.TheVariants as fault
use Rattle.cap_connection.specs.declared.replies.Applied.{Applied}

-- ---- Of this filter

-- the refusal with the number in the blob, where these are the numbers of what the filter leaves
abbrev pub why_in_blob : List ℕ → Refusal → Refusal
why_in_blob numbers (Aborted at) = Aborted (number_in_blob numbers at)
why_in_blob numbers (Misuse at) = Misuse (number_in_blob numbers at)
why_in_blob numbers why = why

-- the fault with the number that the refused change has in the blob
abbrev pub fault_in_blob : List ℕ → Fault ConnectionFault → Fault ConnectionFault
fault_in_blob numbers (stop.Refused (fault.Refused at why)) =
    stop.Refused (fault.Refused (option_map (number_in_blob numbers) at) (why_in_blob numbers why))
fault_in_blob numbers why = why

-- The answer has what was passed over, and then the iterator is that of the accepted groups. Where nothing
-- was applied it is as it was, and the refused change has its number in the blob.
abbrev pub AnswersAccepted : Rule → IterState → IterState → IterState →
    Result Applied (Fault ConnectionFault) → Result (Applied × Passed) (Fault ConnectionFault) → Type 0
AnswersAccepted rule before made after (Ok applied) result =
    (result ≡ Ok (applied, (numbering_in rule before.contents).passed)) × (after ≡ made)
AnswersAccepted rule before made after (Err why) result =
    (result ≡ Err (fault_in_blob (numbering_in rule before.contents).changes why)) × (after ≡ before)

-- An iterator over the accepted groups is applied. The others are passed over: they are not looked at.
pub record AppliesAccepted (rule : Rule) (policy : Policy) (quiet : List ℕ) (before after : IterState)
    (old new : ConnectionState) (result : Result (Applied × Passed) (Fault ConnectionFault)) : Type 0 where
  pub made : IterState
  pub answer : Result Applied (Fault ConnectionFault)
  pub applied : AppliesQuiet policy quiet (begin (accepted_in rule before.contents)) made old new answer
  pub answered : AnswersAccepted rule before made after answer result

-- ---- Of the filter of a text

-- bytes that are no text are misuse, and a text that spells no filter is told as that
abbrev pub filter_fault : ApplicationFault → ConnectionFault
filter_fault (wrong.NoFilter why) = fault.NoFilter why
filter_fault _ = fault.Misuse

abbrev pub none_passed : Passed
none_passed = record { groups = 0; changes = 0 }

-- without a filter each group is accepted
abbrev pub AppliesToAll : Policy → List ℕ → IterState → IterState → ConnectionState → ConnectionState →
    Result (Applied × Passed) (Fault ConnectionFault) → Type 0
AppliesToAll policy quiet before after old new result = (answer : Result Applied (Fault ConnectionFault))
    × AppliesQuiet policy quiet before after old new answer
    × (result ≡ result_map_both (λ applied. (applied, none_passed)) (λ why. why) answer)

-- The filter is read first. A text that spells none is no command.
abbrev pub AppliesGiven : Result (Option Rule) ApplicationFault → Policy → List ℕ → IterState → IterState →
    ConnectionState → ConnectionState → Result (Applied × Passed) (Fault ConnectionFault) → Type 0
AppliesGiven (Ok (Some rule)) policy quiet before after old new result =
    AppliesAccepted rule policy quiet before after old new result
AppliesGiven (Ok None) policy quiet before after old new result =
    AppliesToAll policy quiet before after old new result
AppliesGiven (Err why) policy quiet before after old new result =
    Spoils (filter_fault why) old new result × (after ≡ before)

abbrev pub AppliesWith : Policy → List ℕ → List ℕ → IterState → IterState → ConnectionState →
    ConnectionState → Result (Applied × Passed) (Fault ConnectionFault) → Type 0
AppliesWith policy filter quiet before after old new result =
    AppliesGiven (filter_in filter) policy quiet before after old new result
