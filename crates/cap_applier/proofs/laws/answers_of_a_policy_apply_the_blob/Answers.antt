use Rattle.cap_applier.proofs.PolicyLemmas.{answered-of, between-of, first-of, last-of}
use Rattle.cap_applier.proofs.laws.answers_of_a_policy_apply_the_blob.Goals as goal

pub returns : goal.returns
returns g c = record { first = first-of; between = between-of; step = answered-of; last = last-of }
