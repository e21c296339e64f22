use Rattle.cap_convergence.proofs.SeveralLemmas.{one_after_the_other}
use Rattle.cap_convergence.proofs.laws.rebased_over_one_buffer_after_the_other.Goals as goal

pub returns : goal.returns
returns g c = one_after_the_other
