use Rattle.cap_language.proofs.ScanLaws.{no_closing, no_quote_run, quote_run, piece_then, quote_boundary}
use Rattle.cap_language.proofs.token.split_quote.Goals as goal

pub split_at-requires : goal.split_at-requires
split_at-requires c = quote_boundary c.args.text.now c.as_bytes.result.now c.unquoted_len.result c.as_bytes.ensures.value c.unquoted_len.ensures

pub returns-in-Some-clause-piece : goal.returns-in-Some-clause-piece
returns-in-Some-clause-piece c =
    piece_then c.args.text.now c.as_bytes.result.now c.split_at.result.0.now c.split_at.result.1.now c.in-Some.rest.now c.unquoted_len.result c.as_bytes.ensures.value c.unquoted_len.ensures c.split_at.ensures.front c.split_at.ensures.back c.in-Some.ensures

pub returns-in-None-clause-piece : goal.returns-in-None-clause-piece
returns-in-None-clause-piece c =
    no_closing c.args.text.now c.as_bytes.result.now c.split_at.result.1.now c.unquoted_len.result c.as_bytes.ensures.value c.unquoted_len.ensures c.split_at.ensures.back c.in-None.ensures

pub returns-in-Some-clause-run : goal.returns-in-Some-clause-run
returns-in-Some-clause-run c =
    quote_run c.args.text.now c.as_bytes.result.now c.split_at.result.0.now c.split_at.result.1.now c.in-Some.rest.now c.unquoted_len.result c.as_bytes.ensures.value c.unquoted_len.ensures c.split_at.ensures.front c.split_at.ensures.back c.in-Some.ensures

pub returns-in-None-clause-run : goal.returns-in-None-clause-run
returns-in-None-clause-run c =
    (c.split_at.result.0.now, no_quote_run c.args.text.now c.as_bytes.result.now c.split_at.result.0.now c.split_at.result.1.now c.unquoted_len.result c.as_bytes.ensures.value c.unquoted_len.ensures c.split_at.ensures.front c.split_at.ensures.back c.in-None.ensures)
