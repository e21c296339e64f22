use Rattle.cap_filter.proofs.UniqueLemmas.{Spells-one}
use Rattle.cap_filter.proofs.laws.one_filter.Goals as goal

pub returns : goal.returns
returns c = λ text r s p q. Spells-one text r s p q
