use Rattle.cap_filter.proofs.FaultLemmas.{IsPastLimits-filter_of}
use Rattle.cap_filter.proofs.laws.too_deep_text.Goals as goal

pub returns : goal.returns
returns c = λ text h. IsPastLimits-filter_of text h
