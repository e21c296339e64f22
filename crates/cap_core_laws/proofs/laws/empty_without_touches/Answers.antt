use Rattle.cap_core_laws.proofs.AppliedCaptureLemmas.{empty-live, empty-none}
use Rattle.cap_core_laws.proofs.laws.empty_without_touches.Goals as goal

pub returns : goal.returns
returns g c = record { live = empty-live; none = empty-none }
