use Rattle.cap_rebase.proofs.OneRowLemmas.{over_each}
use Rattle.cap_rebase.proofs.laws.rebased_over_each_in_turn.Goals as goal

pub returns : goal.returns
returns g c = over_each
