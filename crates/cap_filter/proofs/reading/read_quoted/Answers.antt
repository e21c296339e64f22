use Rattle.std.proofs.Common.{◌≡◌, ◌++◌, ◌∷◌, [], string_bytes, refl, sym, ap, ◌∙◌, rules}
use Rattle.cap_filter.specs.Printed.{quote}
use Rattle.cap_filter.specs.Reading.{text_at}
use Rattle.cap_filter.proofs.TokenLemmas.{quote_behind, quote_doubled, closed, unclosed}
use Rattle.cap_filter.proofs.reading.read_quoted.Goals as goal

pub returns-in_default-after : goal.returns-in_default-after
returns-in_default-after g c =
    let word = string_bytes c.loop-piece.word ++ c.in-Some.piece.now in
    let parts = c.in-Some.ensures in
    let at_quote = quote_behind c.loop-piece.rest.now c.in-Some.piece.now c.in-Some.behind.now c.args.left (string_bytes c.loop-piece.word) parts.0 parts.1 in
    let whole_filter = closed c.in-Some.behind.now c.args.left word c.in_default-after.ensures in
    let made : c.in_ok-new.field-0 ≡ word = c.in_ok-new.ensures ∙ c.as_str.ensures.value ∙ c.in_ok-push_str.ensures.bytes in
    ap text_at (sym c.loop-piece.invariant.1 ∙ at_quote ∙ whole_filter) ∙ rw made refl

pub loop-piece-preserved : goal.loop-piece-preserved
loop-piece-preserved g c =
    let word = string_bytes c.loop-piece.word ++ c.in-Some.piece.now in
    let parts = c.in-Some.ensures in
    let at_quote = quote_behind c.loop-piece.rest.now c.in-Some.piece.now c.in-Some.behind.now c.args.left (string_bytes c.loop-piece.word) parts.0 parts.1 in
    let double_quotes = quote_doubled c.in-Some.behind.now c.in-Some-after.more.now c.args.left word c.in-Some-after.ensures in
    let made : string_bytes c.push_str-in-Some.new.self ≡ word ++ quote ∷ [] = c.in_ok-push_str-2.ensures.bytes ∙ ap (λ w. w ++ quote ∷ []) c.in_ok-push_str.ensures.bytes in
    (search rules, rw made (sym double_quotes ∙ sym at_quote ∙ c.loop-piece.invariant.1))

pub returns : goal.returns
returns g c =
    ap text_at (sym c.loop-piece.invariant.1 ∙ unclosed c.loop-piece.rest.now c.args.left (string_bytes c.loop-piece.word) c.in_default.ensures)
