use Rattle.std.proofs.lemmas.Result.{err_from_is_err_and}
use Rattle.cap_run.proofs.OutputLemmas.{flush_failed, writes_later}
use Rattle.cap_run.specs.Run.{ending}
use Rattle.cap_run.proofs.output.write_ending.Goals as goal

pub returns-clause-write_reported : goal.returns-clause-write_reported
returns-clause-write_reported g c =
    writes_later g.W.Sink.went g.W.Sink.failed c.flush.result c.args.writer.now c.write_last_line.new.writer c.flush.new.writer c.in_ok-write_last_line.ensures.write_reported c.flush.ensures.write_reported

pub returns-in_err-write_last_line-clause-write_reported : goal.returns-in_err-write_last_line-clause-write_reported
returns-in_err-write_last_line-clause-write_reported g c =
    let p = err_from_is_err_and c.from_residual.result c.from_residual.ensures.1 in
    rw (p.1, p.2) c.in_err-write_last_line.ensures.write_reported

pub returns-clause-err : goal.returns-clause-err
returns-clause-err g c = flush_failed c.flush.result _ _ _ (ending c.args.form c.args.outcome) c.flush.ensures.err c.in_ok-write_last_line.ensures.ok c.flush.ensures.bytes
