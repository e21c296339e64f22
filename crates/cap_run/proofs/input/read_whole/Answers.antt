use Rattle.std.proofs.Common.{rules, ◌≡◌, IfErr, false}
use Rattle.std.proofs.lemmas.Result.{err_from_is_err_and}
use Rattle.cap_run.specs.RunFault.{is_read}
use Rattle.cap_run.proofs.InputLemmas.{reads_passed}
use Rattle.cap_run.proofs.input.read_whole.Goals as goal

pub returns-in_err-pieces-clause-read_reported : goal.returns-in_err-pieces-clause-read_reported
returns-in_err-pieces-clause-read_reported g c =
    let p = err_from_is_err_and c.from_residual.result c.from_residual.ensures.1 in
    rw (p.1, p.2) c.in_err-pieces.ensures.read_reported

-- out of memory for all bytes in one
pub returns-clause-read_reported : goal.returns-clause-read_reported
returns-clause-read_reported g c =
    let later : IfErr c.map_err.result (λ fault. is_read fault ≡ false) = search rules in
    reads_passed g.R.Source.gave g.R.Source.failed c.map_err.result _ _ later c.in_ok-pieces.ensures.read_reported
