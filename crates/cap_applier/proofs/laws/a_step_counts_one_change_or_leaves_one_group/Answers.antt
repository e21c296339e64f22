use Rattle.cap_applier.proofs.CountLemmas.{step-counts}
use Rattle.cap_applier.proofs.laws.a_step_counts_one_change_or_leaves_one_group.Goals as goal

pub returns : goal.returns
returns g c = step-counts
