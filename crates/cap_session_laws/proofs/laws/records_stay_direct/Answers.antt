use Rattle.cap_session_laws.proofs.TouchedLemmas.{direct_stays}
use Rattle.cap_session_laws.proofs.laws.records_stay_direct.Goals as goal

pub returns : goal.returns
returns g c = direct_stays
