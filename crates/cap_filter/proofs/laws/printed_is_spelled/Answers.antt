use Rattle.cap_filter.proofs.PrintLaw.{Spells-filter_text}
use Rattle.cap_filter.proofs.laws.printed_is_spelled.Goals as goal

pub returns : goal.returns
returns c = λ r. Spells-filter_text r
