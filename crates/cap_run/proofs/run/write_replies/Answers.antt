use Rattle.std.proofs.Common.{Bool, refl, string_bytes, subst, true}
use Rattle.std.proofs.lemmas.Result.{err_from_is_err_and}
use Rattle.cap_run.specs.Code.Run.{RunsNext}
use Rattle.cap_run.proofs.OutputLemmas.{fault_later}
use Rattle.cap_stream.proofs.CallLemmas.{went_on}
use Rattle.cap_run.proofs.RunLemmas.{at_begun, at_end, at_fault, at_next, at_none, at_written}
use Rattle.cap_run.proofs.run.write_replies.Goals as goal

pub loop-made-init : goal.loop-made-init
loop-made-init g c = record {
  run = λ spelled is.
      at_none spelled c.args.lines.now c.new-interpreter.result (string_bytes c.args.pending.now) (g.W.Sink.contents c.args.writer.now) c.new-interpreter.ensures c.requires is;
  went = (0, refl);
}

-- the line has its reply, and what is long enough was written
pub loop-made-preserved : goal.loop-made-preserved
loop-made-preserved g c = record {
  run = λ spelled is.
      let so = c.loop-made.invariant.run spelled is in
      let next = at_next spelled c.loop-made.lines c.run_next.new.lines c.loop-made.interpreter c.run_next.new.interpreter (string_bytes c.loop-made.pending) (string_bytes c.run_next.new.pending) _ _ c.in-Ok-true.field-0 so c.in-Ok-true.field-0-test (c.in-Ok-true.ensures.next so.others so.spelled) in
      at_written spelled c.run_next.new.lines c.run_next.new.interpreter (string_bytes c.run_next.new.pending) (string_bytes c.write_long.new.pending) _ _ _ next c.in_ok-write_long.ensures.ok;
  went = went_on g.W.Sink.went g.W.Sink.failed c.args.writer.now c.loop-made.writer c.write_long.new.writer c.loop-made.invariant.went c.in_ok-write_long.ensures.write_reported;
}

-- behind the last line
pub returns-in-Ok-false-clause-ok : goal.returns-in-Ok-false-clause-ok
returns-in-Ok-false-clause-ok g c = λ spelled is.
    let so = c.loop-made.invariant.run spelled is in
    at_end spelled c.loop-made.lines c.run_next.new.lines c.loop-made.interpreter c.run_next.new.interpreter (string_bytes c.loop-made.pending) (string_bytes c.run_next.new.pending) _ _ c.in-Ok-false.field-0 so c.in-Ok-false.field-0-test
    (c.in-Ok-false.ensures.next so.others so.spelled)

-- the line has no reply
pub returns-in-Err-clause-ok : goal.returns-in-Err-clause-ok
returns-in-Err-clause-ok g c = λ spelled is.
    let so = c.loop-made.invariant.run spelled is in
    at_fault spelled c.loop-made.lines c.loop-made.interpreter (string_bytes c.loop-made.pending) (string_bytes c.run_next.new.pending) _ _ c.in-Err.fault so (c.in-Err.ensures.next so.others so.spelled) c.in-Err.ensures.same

-- the reply was not written, or not all of it
pub returns-in_err-write_long-clause-err : goal.returns-in_err-write_long-clause-err
returns-in_err-write_long-clause-err g c = λ form spelled is.
    let so = c.loop-made.invariant.run spelled is in
    let next = at_next spelled c.loop-made.lines c.run_next.new.lines c.loop-made.interpreter c.run_next.new.interpreter (string_bytes c.loop-made.pending) (string_bytes c.run_next.new.pending) _ _ c.in-Ok-true.field-0 so c.in-Ok-true.field-0-test (c.in-Ok-true.ensures.next so.others so.spelled) in
    let p = err_from_is_err_and c.from_residual.result c.from_residual.ensures.1 in
    rw p.1 (at_begun form spelled c.run_next.new.lines c.run_next.new.interpreter (string_bytes c.run_next.new.pending) _ _ _ next c.in_err-write_long.ensures.err.1)

pub returns-in_err-write_long-clause-write_reported : goal.returns-in_err-write_long-clause-write_reported
returns-in_err-write_long-clause-write_reported g c =
    let p = err_from_is_err_and c.from_residual.result c.from_residual.ensures.1 in
    rw (p.1, p.2) (fault_later g.W.Sink.went g.W.Sink.failed c.in_err-write_long.field-0.0 c.args.writer.now c.loop-made.writer c.write_long.new.writer c.loop-made.invariant.went c.in_err-write_long.ensures.write_reported)
