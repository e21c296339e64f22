use Rattle.cap_filter.proofs.SpelledLemmas.{Spells-read}
use Rattle.cap_filter.proofs.laws.spelled_is_read.Goals as goal

pub returns : goal.returns
returns c = λ text r h fits. Spells-read text r h fits
