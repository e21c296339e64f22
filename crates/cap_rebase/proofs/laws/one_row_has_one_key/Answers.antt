use Rattle.cap_rebase.proofs.SameKeyLemmas.{one_row}
use Rattle.cap_rebase.proofs.laws.one_row_has_one_key.Goals as goal

pub returns : goal.returns
returns g c = one_row
