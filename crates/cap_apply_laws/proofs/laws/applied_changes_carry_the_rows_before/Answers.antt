use Rattle.cap_apply.proofs.StayLemmas.{apply-carries}
use Rattle.cap_apply_laws.proofs.laws.applied_changes_carry_the_rows_before.Goals as goal

pub returns : goal.returns
returns g c = apply-carries
