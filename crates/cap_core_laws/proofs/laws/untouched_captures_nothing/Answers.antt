use Rattle.cap_core.proofs.LawLemmas.{untouched}
use Rattle.cap_core_laws.proofs.laws.untouched_captures_nothing.Goals as goal

pub returns : goal.returns
returns g c = untouched
