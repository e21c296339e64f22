use Rattle.cap_core.proofs.LawLemmas.{first_image, truth}
use Rattle.cap_core.proofs.TouchedLemmas.{is_sorted-records_of}
use Rattle.cap_core_laws.proofs.laws.one_record_a_key.Goals as goal

pub returns : goal.returns
returns g c = record { once = λ touched. truth _ (is_sorted-records_of touched); first = first_image }
