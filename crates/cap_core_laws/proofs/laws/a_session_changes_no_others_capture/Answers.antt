use Rattle.cap_core_laws.proofs.AgreeLemmas.{others_capture}
use Rattle.cap_core_laws.proofs.laws.a_session_changes_no_others_capture.Goals as goal

pub returns : goal.returns
returns g c = others_capture
