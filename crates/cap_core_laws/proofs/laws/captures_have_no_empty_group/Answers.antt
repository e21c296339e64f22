use Rattle.cap_core_laws.proofs.AppliedCaptureLemmas.{no-empty-group}
use Rattle.cap_core_laws.proofs.laws.captures_have_no_empty_group.Goals as goal

pub returns : goal.returns
returns g c = no-empty-group
