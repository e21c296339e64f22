use Rattle.cap_changes.proofs.InvertLemmas.{result_back}
use Rattle.cap_changes.proofs.inverse.invert.Goals as goal

pub returns-clause-back : goal.returns-clause-back
returns-clause-back g c = result_back (λ inverse. inverse) c.into_inverse.result c.args.list c.groups_fit.ensures c.into_inverse.ensures
