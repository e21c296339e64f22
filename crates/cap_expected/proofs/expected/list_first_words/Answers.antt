use Rattle.cap_expected.specs.Expected.{first_words}
use Rattle.cap_expected.proofs.expected.list_first_words.Goals as goal

pub returns : goal.returns
unfolding first_words
returns g c = rw c.as_slice.ensures at c.list_among.ensures
