use Rattle.cap_captures.proofs.UnrestartedLemmas.{one-capture}
use Rattle.cap_captures.proofs.laws.the_one_capture_is_without_restarts.Goals as goal

pub returns : goal.returns
returns g c = one-capture
