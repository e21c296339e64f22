use Rattle.cap_applier.proofs.NamedLemmas.{reached-stays, step-stays}
use Rattle.cap_applier.proofs.laws.rows_that_no_change_names_stay.Goals as goal

pub returns : goal.returns
returns g c = record { step = step-stays; between = reached-stays }
