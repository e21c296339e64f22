use Rattle.std.proofs.Common.{sym, ◌∙◌, rules}
use Rattle.cap_filter.proofs.TokenLemmas.{blank_skipped}
use Rattle.cap_filter.proofs.token.after_blanks.Goals as goal

pub loop-rest-preserved : goal.loop-rest-preserved
loop-rest-preserved c =
    (search rules, sym (blank_skipped c.loop-rest.text.now c.in-Some.rest.now c.in-Some.ensures) ∙ c.loop-rest.invariant.1)
