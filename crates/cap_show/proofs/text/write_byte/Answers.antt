use Rattle.std.proofs.Common.{rules}
use Rattle.cap_show.proofs.TextLemmas.{byte_digits}
use Rattle.cap_show.proofs.text.write_byte.Goals as goal

pub returns : goal.returns
returns g c = rw (← byte_digits c.args.byte c.ranges.byte.fits) (search rules)
