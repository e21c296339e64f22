-- An application of sessions whose numbers are copied first.
use Rattle.std.proofs.Common.{◌≡◌, ◌∙◌, ℕ, List}
use Rattle.std.specs.Prelude.{Result, Ok, Err}
use Rattle.cap_value.specs.declared.memory.Fault.{Fault}
use Rattle.cap_value.specs.declared.memory.Fault.TheVariants as stop
use Rattle.cap_apply.specs.declared.policy.Policy.{Policy}
use Rattle.cap_core.specs.RefusedFirst.{refusal_in}
use Rattle.cap_core.specs.declared.command.Command.TheVariants as command
use Rattle.cap_connection.specs.Calls.{Applies, AppliesQuiet}
use Rattle.cap_connection.specs.Connection.{ConnectionState}
use Rattle.cap_connection.specs.Iter.{IterState}
use Rattle.cap_connection.specs.Replies.{outcome_in}
use Rattle.cap_connection.specs.declared.fault.ConnectionFault.{ConnectionFault}
use Rattle.cap_connection.specs.declared.replies.Applied.{Applied}
use Rattle.cap_connection.proofs.CallLemmas.{unless_memory}

module _ (policy : Policy) (quiet : List ℕ) (before after : IterState) (old new : ConnectionState) where
  -- what is said of an application is no less than what is said of one with copied numbers
  pub applied_quietly : (result : Result Applied (Fault ConnectionFault)) → Applies policy quiet before after old new result → AppliesQuiet policy quiet before after old new result
  applied_quietly (Ok made) applies = record { applied = applies; kept = tt }
  applied_quietly (Err (stop.Refused why)) applies = record { applied = applies; kept = applies.kept ∙ (λ i. record before { conflicts = applies.conflicts_kept i }) }
  applied_quietly (Err stop.OutOfMemory) applies = record {
    applied = unless_memory refusal_in (λ reply. old.output) (command.Apply before.contents policy quiet) old new outcome_in (Err stop.OutOfMemory) applies.applied;
    kept = applies.kept ∙ (λ i. record before { conflicts = applies.conflicts_kept i });
  }
