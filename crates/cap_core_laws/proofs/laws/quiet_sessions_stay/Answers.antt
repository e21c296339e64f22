use Rattle.cap_core.proofs.SessionLemmas.{quiet-stays}
use Rattle.cap_core_laws.proofs.laws.quiet_sessions_stay.Goals as goal

pub returns : goal.returns
returns g c = quiet-stays
