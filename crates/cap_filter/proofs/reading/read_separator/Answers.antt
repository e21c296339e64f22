use Rattle.cap_filter.proofs.FirstLemmas.{no_separator}
use Rattle.cap_filter.proofs.reading.read_separator.Goals as goal

pub returns-in_default : goal.returns-in_default
returns-in_default c = no_separator c.next_token-read.result.left _ c.next_token-read.result.rest.now c.next_token-read.result.token c.next_token-read.ensures c.in_default.not-Comma c.in_default.not-Closing
