use Rattle.std.proofs.Common.{ap, ◌∙◌}
use Rattle.cap_language.specs.Scanning.{text_in}
use Rattle.cap_language.proofs.ScanLaws.{quote_token}
use Rattle.cap_language.proofs.token.long_text.Goals as goal

pub returns-in-Some-2 : goal.returns-in-Some-2
returns-in-Some-2 g c =
    quote_token c.args.here.now c.in-Some.begun.now c.requires c.in-Some.ensures ∙ ap text_in (rw c.in-Some-2.is at c.in_ok-text-in-Some.ensures)

pub returns-in-None-2 : goal.returns-in-None-2
returns-in-None-2 g c =
    quote_token c.args.here.now c.in-Some.begun.now c.requires c.in-Some.ensures ∙ ap text_in (rw c.in-None-2.is at c.in_ok-text-in-Some.ensures)
