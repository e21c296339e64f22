use Rattle.cap_filter.proofs.FaultLemmas.{IsUnfitAt-filter_of}
use Rattle.cap_filter.proofs.laws.unfit_place.Goals as goal

pub returns : goal.returns
returns c = λ text at h. IsUnfitAt-filter_of text at h
