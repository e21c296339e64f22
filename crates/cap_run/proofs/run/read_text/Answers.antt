use Rattle.std.proofs.lemmas.Result.{err_from_is_err_and}
use Rattle.cap_run.proofs.InputLemmas.{no_text_later, reads_passed}
use Rattle.cap_run.proofs.run.read_text.Goals as goal

pub returns-in_err-read_whole-clause-read_reported : goal.returns-in_err-read_whole-clause-read_reported
returns-in_err-read_whole-clause-read_reported g c =
    let p = err_from_is_err_and c.from_residual.result c.from_residual.ensures.1 in
    rw (p.1, p.2) c.in_err-read_whole.ensures.read_reported

pub returns-clause-read_reported : goal.returns-clause-read_reported
returns-clause-read_reported g c =
    reads_passed g.R.Source.gave g.R.Source.failed c.text_of.result _ _ (no_text_later _ c.text_of.result c.text_of.ensures.only_not_utf8) c.in_ok-read_whole.ensures.read_reported
