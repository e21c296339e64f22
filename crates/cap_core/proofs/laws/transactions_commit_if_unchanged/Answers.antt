use Rattle.cap_core.proofs.CommitLemmas.{commits-if-unchanged}
use Rattle.cap_core.proofs.laws.transactions_commit_if_unchanged.Goals as goal

pub returns : goal.returns
returns g c = commits-if-unchanged c.footprints_judge_batches.ensures
