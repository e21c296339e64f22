use Rattle.cap_expected.specs.Expected.{later_words}
use Rattle.cap_expected.proofs.expected.list_later_words.Goals as goal

pub returns : goal.returns
unfolding later_words
returns g c = rw c.as_slice.ensures at c.list_among.ensures
