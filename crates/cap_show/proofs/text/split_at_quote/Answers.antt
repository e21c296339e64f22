use Rattle.std.proofs.lemmas.Str.Pattern.{split_parts}
use Rattle.cap_show.proofs.TextLemmas.{doubled_parts}
use Rattle.cap_show.proofs.text.split_at_quote.Goals as goal

pub returns : goal.returns
returns c = doubled_parts c.args.quote c.args.text.now c.split_once.result (split_parts c.args.quote c.args.text.now c.split_once.result c.split_once.ensures.cases c.requires.ascii)
