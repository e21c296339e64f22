use Rattle.std.proofs.lemmas.Str.{encode_ascii}
use Rattle.cap_show.proofs.text.write_quote.Goals as goal

pub returns : goal.returns
returns g c = rw (encode_ascii c.args.quote c.requires.ascii) at c.write_char.ensures.writes
