use Rattle.std.proofs.Common.{[], refl, ◌∙◌}
use Rattle.std.proofs.lemmas.Result.{err_from_is_err_and}
use Rattle.cap_filter.specs.Plain.{rule_of}
use Rattle.cap_filter.specs.Reading.{end_at}
use Rattle.cap_filter.specs.Tokens.{tokens_of}
use Rattle.cap_filter.proofs.RunLemmas.{run-no_end, run-end, refused_by}
use Rattle.cap_filter.proofs.reading.read_whole.Goals as goal

pub returns-in_err-read_end-clause-reads : goal.returns-in_err-read_end-clause-reads
returns-in_err-read_end-clause-reads g c =
    let p = err_from_is_err_and c.from_residual-in_err-read_end.result c.from_residual-in_err-read_end.ensures.1 in
    let parsed = c.in_ok-value.field-0 in
    rw (p.1, p.2) (refused_by c.in_err-read_end.field-0.0 (end_at (tokens_of parsed.rest.now)) _ c.in_err-read_end.ensures
    (λ e h. c.in_ok-value.ensures.reads [] refl ∙ run-no_end (rule_of parsed.value) parsed.room e (tokens_of parsed.rest.now) h))

pub returns-clause-reads : goal.returns-clause-reads
returns-clause-reads g c =
    let parsed = c.in_ok-value.field-0 in
    c.in_ok-value.ensures.reads [] refl ∙ run-end (rule_of parsed.value) parsed.room _ (tokens_of parsed.rest.now) c.in_ok-read_end.ensures
