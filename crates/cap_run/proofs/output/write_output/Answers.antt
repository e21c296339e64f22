use Rattle.std.proofs.lemmas.Result.{err_from_is_err_and}
use Rattle.cap_run.proofs.OutputLemmas.{flush_failed, writes_later}
use Rattle.cap_run.proofs.output.write_output.Goals as goal

pub returns-clause-write_reported : goal.returns-clause-write_reported
returns-clause-write_reported g c =
    writes_later g.W.Sink.went g.W.Sink.failed c.flush.result c.args.writer.now c.write_whole.new.writer c.flush.new.writer c.in_ok-write_whole.ensures.write_reported c.flush.ensures.write_reported

pub returns-clause-err : goal.returns-clause-err
returns-clause-err g c = flush_failed c.flush.result _ _ _ c.args.output.now c.flush.ensures.err c.in_ok-write_whole.ensures.ok c.flush.ensures.bytes
