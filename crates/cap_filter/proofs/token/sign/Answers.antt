use Rattle.std.proofs.Common.{sym, ◌∙◌}
use Rattle.cap_filter.proofs.TokenLemmas.{opening_first, closing_first, comma_first, quote_first, nothing_left, other_first}
use Rattle.cap_filter.proofs.token.sign.Goals as goal

pub returns-in-Some : goal.returns-in-Some
returns-in-Some c = opening_first c.args.text.now c.in-Some.rest.now c.in-Some.ensures

pub returns-in-Some-after : goal.returns-in-Some-after
returns-in-Some-after c = closing_first c.args.text.now _ c.in-Some-after.ensures

pub returns-in-Some-after-2 : goal.returns-in-Some-after-2
returns-in-Some-after-2 c = comma_first c.args.text.now _ c.in-Some-after-2.ensures

pub returns-in-Some-after-3 : goal.returns-in-Some-after-3
returns-in-Some-after-3 c = quote_first c.args.text.now _ c.in-Some-after-3.ensures

pub returns-then-is_empty : goal.returns-then-is_empty
returns-then-is_empty c = nothing_left c.args.text.now (sym c.is_empty.ensures ∙ c.if-is_empty.true)

pub returns-else-is_empty : goal.returns-else-is_empty
returns-else-is_empty c =
    other_first c.args.text.now (sym c.is_empty.ensures ∙ c.if-is_empty.false) c.requires.no_word c.requires.no_blank c.in_default-after-3.ensures c.in_default.ensures c.in_default-after.ensures c.in_default-after-2.ensures
