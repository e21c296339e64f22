use Rattle.std.proofs.Common.{sym, ◌∙◌}
use Rattle.cap_filter.proofs.TokenLemmas.{word_here}
use Rattle.cap_filter.proofs.token.next_token.Goals as goal

pub returns-then-not-is_empty : goal.returns-then-not-is_empty
returns-then-not-is_empty c =
    let parts = c.split_word.ensures in
    sym c.after_blanks-text.ensures.same ∙ word_here c.after_blanks-text.result.now c.split_word.result.0.now c.split_word.result.1.now parts.parts parts.word parts.whole (sym c.is_empty.ensures ∙ c.if-not-is_empty.true)
