use Rattle.cap_script.proofs.LineLemmas.{same_script}
use Rattle.cap_script_laws.proofs.laws.one_workload.Goals as goal

pub returns : goal.returns
returns g c = λ text a b p q. same_script c.one_filter.ensures a b text p q
