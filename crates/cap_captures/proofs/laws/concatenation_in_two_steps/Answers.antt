use Rattle.cap_captures.proofs.StepLemmas.{in-steps}
use Rattle.cap_captures.proofs.laws.concatenation_in_two_steps.Goals as goal

pub returns : goal.returns
returns g c = in-steps
