use Rattle.cap_applier.proofs.LedLemmas.{accepted-on, leaves-rows, never-refused}
use Rattle.cap_applier.proofs.laws.a_transaction_leaves_what_the_application_left.Goals as goal

pub returns : goal.returns
returns g c = record { rows = leaves-rows; accepted = accepted-on; refused = never-refused }
