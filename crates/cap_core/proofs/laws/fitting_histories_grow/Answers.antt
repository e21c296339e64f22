use Rattle.cap_core.specs.Table.{BlobsFit}
use Rattle.cap_core.proofs.LawLemmas.{history-fits, fits-begins, fits_push}
use Rattle.cap_core.proofs.laws.fitting_histories_grow.Goals as goal

pub returns : goal.returns
unfolding BlobsFit
returns g c = record { none = tt; more = fits_push; begins = fits-begins; all = history-fits; past = λ h fits. fits }
