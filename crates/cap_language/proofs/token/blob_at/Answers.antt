use Rattle.cap_language.proofs.ScanLaws.{blob_found, blob_unclosed, blob_unpaired}
use Rattle.cap_language.proofs.token.blob_at.Goals as goal

pub returns-in_default-split_quote : goal.returns-in_default-split_quote
returns-in_default-split_quote g c =
    let run = (rw c.in_default-split_quote.is at c.split_quote.ensures.run) in
    blob_unclosed c.args.here.now c.in-Some.opened.now c.in-Some-after_sign.begun.now run.0 c.requires c.in-Some.ensures c.in-Some-after_sign.ensures run.1

pub returns-in-Some-2 : goal.returns-in-Some-2
returns-in-Some-2 g c =
    blob_found c.args.here.now c.in-Some.opened.now c.in-Some-after_sign.begun.now c.in-Some-split_quote.digits.now c.in-Some-2.bytes.items c.in-Some-split_quote.rest.now
    c.requires c.in-Some.ensures c.in-Some-after_sign.ensures c.in-Some-split_quote.ensures.run (rw c.in-Some-2.is at c.in_ok-bytes.ensures)

pub returns-in-None : goal.returns-in-None
returns-in-None g c =
    blob_unpaired c.args.here.now c.in-Some.opened.now c.in-Some-after_sign.begun.now c.in-Some-split_quote.digits.now c.in-Some-split_quote.rest.now
    c.requires c.in-Some.ensures c.in-Some-after_sign.ensures c.in-Some-split_quote.ensures.run (rw c.in-None.is at c.in_ok-bytes.ensures)
