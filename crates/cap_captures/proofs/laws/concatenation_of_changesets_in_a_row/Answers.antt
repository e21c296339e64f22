use Rattle.cap_captures.proofs.ConcatLemmas.{concatenated}
use Rattle.cap_captures.proofs.laws.concatenation_of_changesets_in_a_row.Goals as goal

pub returns : goal.returns
returns g c = concatenated
