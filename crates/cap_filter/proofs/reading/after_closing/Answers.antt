use Rattle.std.proofs.Common.{sym}
use Rattle.cap_filter.proofs.FirstLemmas.{no_closing}
use Rattle.cap_filter.proofs.reading.after_closing.Goals as goal

pub returns-in_default : goal.returns-in_default
returns-in_default c = sym (no_closing c.next_token-read.result.left _ c.next_token-read.result.rest.now c.next_token-read.result.token c.next_token-read.ensures c.in_default.not-Closing)
