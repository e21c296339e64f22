use Rattle.cap_script_laws.proofs.OpenLaw.{fault_begins}
use Rattle.cap_script_laws.proofs.laws.syntax_fault_place.Goals as goal

pub returns : goal.returns
returns g c = fault_begins g.row.A.Denot
