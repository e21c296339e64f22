use Rattle.cap_language.proofs.ScanLaws.{short_token}
use Rattle.cap_language.proofs.token.short_text.Goals as goal

pub returns-in-None : goal.returns-in-None
returns-in-None c =
    short_token c.args.here.now c.in-Some.begun.now c.in-Some-split_quote.piece.now c.in-Some-split_quote.behind.now c.requires c.in-Some.ensures c.in-Some-split_quote.ensures.piece c.in-None.ensures
