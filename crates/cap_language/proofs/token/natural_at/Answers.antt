use Rattle.std.proofs.Common.{sym, ◌∙◌}
use Rattle.cap_language.proofs.ScanLaws.{no_number, starts, the_natural}
use Rattle.cap_language.proofs.token.natural_at.Goals as goal

pub returns-in-Digit : goal.returns-in-Digit
returns-in-Digit c = the_natural c.args.text.now c.number_at.result (starts c.as_bytes.ensures.value c.start_of.ensures ∙ c.in-Digit.is) c.number_at.ensures

pub returns-in_default : goal.returns-in_default
returns-in_default c = no_number c.args.text.now (λ digit. c.in_default.not-Digit (sym (starts c.as_bytes.ensures.value c.start_of.ensures) ∙ digit))
