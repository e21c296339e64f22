use Rattle.cap_filter.proofs.SoundLemmas.{filter_of-Spells}
use Rattle.cap_filter.proofs.laws.read_is_spelled.Goals as goal

pub returns : goal.returns
returns c = λ text r h. filter_of-Spells text r h
