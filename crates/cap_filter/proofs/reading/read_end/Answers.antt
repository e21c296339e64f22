use Rattle.cap_filter.proofs.FirstLemmas.{no_end}
use Rattle.cap_filter.proofs.reading.read_end.Goals as goal

pub returns-in_default : goal.returns-in_default
returns-in_default c = no_end c.next_token-read.result.left _ c.next_token-read.result.rest.now c.next_token-read.result.token c.next_token-read.ensures c.in_default.not-End
