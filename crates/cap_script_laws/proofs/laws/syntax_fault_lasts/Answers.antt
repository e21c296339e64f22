use Rattle.cap_script_laws.proofs.PlaceLaw.{fault_kept}
use Rattle.cap_script_laws.proofs.laws.syntax_fault_lasts.Goals as goal

pub returns : goal.returns
returns g c = fault_kept g.row.A.Denot
