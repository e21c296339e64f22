use Rattle.std.proofs.lemmas.Result.{err_from_is_err_and}
use Rattle.cap_run.proofs.InputLemmas.{reads_passed}
use Rattle.cap_run.proofs.OutputLemmas.{none_reported}
use Rattle.cap_run.proofs.show.show_blob.Goals as goal

pub returns-in_err-blob-clause-read_reported : goal.returns-in_err-blob-clause-read_reported
returns-in_err-blob-clause-read_reported g c =
    let p = err_from_is_err_and c.from_residual.result c.from_residual.ensures.1 in
    rw (p.1, p.2) c.in_err-blob.ensures.read_reported

pub returns-clause-read_reported : goal.returns-clause-read_reported
returns-clause-read_reported g c = reads_passed g.R.Source.gave g.R.Source.failed c.write_blob.result _ _ c.write_blob.ensures.no_failed_read c.in_ok-blob.ensures.read_reported

pub returns-in_err-blob-clause-write_reported : goal.returns-in_err-blob-clause-write_reported
returns-in_err-blob-clause-write_reported g c =
    let p = err_from_is_err_and c.from_residual.result c.from_residual.ensures.1 in
    rw (p.1, p.2) (none_reported g.W.Sink.went g.W.Sink.failed c.in_err-blob.field-0.0 c.args.writer.now c.in_err-blob.ensures.early)
