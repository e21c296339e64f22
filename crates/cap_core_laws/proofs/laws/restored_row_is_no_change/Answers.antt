use Rattle.cap_core.proofs.LawLemmas.{restored}
use Rattle.cap_core_laws.proofs.laws.restored_row_is_no_change.Goals as goal

pub returns : goal.returns
returns g c = restored
