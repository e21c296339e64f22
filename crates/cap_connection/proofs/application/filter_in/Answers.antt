use Rattle.std.proofs.Common.{◌==◌, ◌∙◌, ℕ, List, length, sym, ap}
use Rattle.cap_filter.specs.Reading.{filter_of}
use Rattle.cap_connection.specs.Application.{filter_read}
use Rattle.cap_connection.proofs.ApplicationLemmas.{filter-empty, filter-misused, filter-spelled, not-first}
use Rattle.cap_connection.proofs.application.filter_in.Goals as goal

pub returns-in_default-clause-filter : goal.returns-in_default-clause-filter
returns-in_default-clause-filter c = filter-misused c.args.text.now c.in_default.ensures.cases.0

pub returns-then-is_empty-clause-filter : goal.returns-then-is_empty-clause-filter
returns-then-is_empty-clause-filter c =
    let same = c.in-Ok.ensures.cases.0 in
    filter-empty c.args.text.now c.in-Ok.ensures.cases.1 (ap (λ (t : List ℕ). length t == 0) (sym same) ∙ sym c.is_empty.ensures ∙ c.if-is_empty.true)

pub returns-then-is_empty-clause-first : goal.returns-then-is_empty-clause-first
returns-then-is_empty-clause-first c = not-first c.args.text.now _ c.in-Ok.ensures.cases.1

pub returns-in-Ok-parse-clause-filter : goal.returns-in-Ok-parse-clause-filter
returns-in-Ok-parse-clause-filter c =
    let same = c.in-Ok.ensures.cases.0 in
    filter-spelled c.args.text.now c.in-Ok.ensures.cases.1 (ap (λ (t : List ℕ). length t == 0) (sym same) ∙ sym c.is_empty.ensures ∙ c.if-is_empty.false)
    ∙ ap filter_read (ap filter_of (sym same) ∙ c.in-Ok-parse.ensures.reading)

pub returns-in-Ok-parse-clause-first : goal.returns-in-Ok-parse-clause-first
returns-in-Ok-parse-clause-first c = not-first c.args.text.now _ c.in-Ok.ensures.cases.1

pub returns-in-Err-Refused-clause-filter : goal.returns-in-Err-Refused-clause-filter
returns-in-Err-Refused-clause-filter c =
    let same = c.in-Ok.ensures.cases.0 in
    filter-spelled c.args.text.now c.in-Ok.ensures.cases.1 (ap (λ (t : List ℕ). length t == 0) (sym same) ∙ sym c.is_empty.ensures ∙ c.if-is_empty.false)
    ∙ ap filter_read (ap filter_of (sym same) ∙ (rw c.in-Err-Refused.field-0-is at c.in-Err-Refused.ensures.reading))

pub returns-in-Err-Refused-clause-first : goal.returns-in-Err-Refused-clause-first
returns-in-Err-Refused-clause-first c = not-first c.args.text.now _ c.in-Ok.ensures.cases.1

pub returns-in-Err-OutOfMemory-clause-first : goal.returns-in-Err-OutOfMemory-clause-first
returns-in-Err-OutOfMemory-clause-first c = not-first c.args.text.now _ c.in-Ok.ensures.cases.1
