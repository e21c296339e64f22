use Rattle.cap_core_laws.proofs.StayLemmas.{row_stays}
use Rattle.cap_core_laws.proofs.laws.a_row_that_no_change_names_stays.Goals as goal

pub returns : goal.returns
returns g c = λ now event name key. row_stays name key now event
