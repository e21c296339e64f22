use Rattle.cap_core_laws.proofs.AgreeLemmas.{either_order}
use Rattle.cap_core_laws.proofs.laws.order_of_two_sessions_does_not_matter.Goals as goal

pub returns : goal.returns
returns g c = either_order
