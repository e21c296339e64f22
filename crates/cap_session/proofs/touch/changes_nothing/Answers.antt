use Rattle.std.proofs.Common.{◌≡◌, false, ◌∙◌, ◌||◌, not, ap, rules}
use Rattle.std.specs.Option.{option_copied}
use Rattle.std.proofs.Math.Bool.{or-true}
use Rattle.cap_session.proofs.RecordLemmas.{touch-unchanged}
use Rattle.cap_session.proofs.touch.changes_nothing.Goals as goal

pub returns-then-not-record : goal.returns-then-not-record
returns-then-not-record g c = λ _ records t ordered found same.
    let direct : c.in-Some.record.now.indirect ≡ false = search rules in
    touch-unchanged records t c.in-Some.record.now ordered (found ∙ ap option_copied c.in-Some.is) (ap (λ b. not b || t.indirect) direct)

pub returns-else-not-record : goal.returns-else-not-record
returns-else-not-record g c = λ unchanged records t ordered found same.
    let record_found = c.in-Some.record.now in
    touch-unchanged records t record_found ordered (found ∙ ap option_copied c.in-Some.is) (ap (λ b. not record_found.indirect || b) (same ∙ unchanged) ∙ or-true (not record_found.indirect))
