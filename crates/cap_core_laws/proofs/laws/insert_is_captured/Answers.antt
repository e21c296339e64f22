use Rattle.cap_core_laws.proofs.InsertLemmas.{insert_has_change}
use Rattle.cap_core_laws.proofs.laws.insert_is_captured.Goals as goal

pub returns : goal.returns
returns g c = insert_has_change
