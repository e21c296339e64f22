-- Applications to the tables that a filter accepts, for which memory runs out before they are made.
use Rattle.std.proofs.Common.{ℕ, List, Option, Some, None, refl}
use Rattle.std.specs.Prelude.{Result, Ok, Err}
use Rattle.cap_value.specs.declared.memory.Fault.TheVariants as stop
use Rattle.cap_filter.specs.Rule.{Rule}
use Rattle.cap_apply.specs.declared.policy.Policy.{Policy}
use Rattle.cap_connection.specs.Accepted.{AppliesAccepted, AppliesGiven}
use Rattle.cap_applier.specs.Chosen.{accepted_in}
use Rattle.cap_connection.specs.Connection.{ConnectionState}
use Rattle.cap_connection.specs.Iter.{IterState, begin}
use Rattle.cap_connection.specs.declared.application.ApplicationFault.{ApplicationFault}

-- all is as it was
pub without_copies : (rule : Rule) (policy : Policy) (quiet : List ℕ) (it : IterState) (at : ConnectionState) → AppliesAccepted rule policy quiet it it at at (Err stop.OutOfMemory)
without_copies rule policy quiet it at = record {
  made = begin (accepted_in rule it.contents);
  answer = Err stop.OutOfMemory;
  applied = record { applied = refl; kept = refl };
  answered = (refl, refl);
}

-- whatever the text of the filter is
pub without_memory : (given : Result (Option Rule) ApplicationFault) (policy : Policy) (quiet : List ℕ) (it : IterState) (at : ConnectionState)
    → AppliesGiven given policy quiet it it at at (Err stop.OutOfMemory)
without_memory (Ok (Some rule)) policy quiet it at = without_copies rule policy quiet it at
without_memory (Ok None) policy quiet it at = (Err stop.OutOfMemory, record { applied = refl; kept = refl }, refl)
without_memory (Err why) policy quiet it at = (refl, refl)
