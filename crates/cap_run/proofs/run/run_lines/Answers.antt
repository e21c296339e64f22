use Rattle.std.proofs.Common.{string_bytes}
use Rattle.std.proofs.lemmas.Result.{err_from_is_err_and}
use Rattle.cap_run.proofs.OutputLemmas.{fault_later, ended_reported}
use Rattle.cap_stream.proofs.CallLemmas.{went_on}
use Rattle.cap_run.proofs.RunLemmas.{begins_last, begins_pending, writes_ended, writes_front, writes_run}
use Rattle.cap_run.proofs.run.run_lines.Goals as goal

pub returns-in_err-outcome-clause-writes : goal.returns-in_err-outcome-clause-writes
returns-in_err-outcome-clause-writes g c = λ spelled is.
    let p = err_from_is_err_and c.from_residual.result c.from_residual.ensures.1 in
    rw (p.1, p.2) (writes_front c.args.form spelled c.in_err-outcome.field-0.0 _ _ c.in_err-outcome.ensures.write (c.in_err-outcome.ensures.err c.args.form spelled is))

pub returns-in_err-write_pending-clause-writes : goal.returns-in_err-write_pending-clause-writes
returns-in_err-write_pending-clause-writes g c = λ spelled is.
    let p = err_from_is_err_and c.from_residual-in_err-write_pending.result c.from_residual-in_err-write_pending.ensures.1 in
    let ran = c.in_ok-outcome.ensures.ok spelled is in
    let why = c.in_err-write_pending.ensures.err in
    rw (p.1, p.2) (writes_front c.args.form spelled c.in_err-write_pending.field-0.0 _ _ why.0
    (begins_pending c.args.form spelled c.in_ok-outcome.outcome (string_bytes c.write_replies.new.pending) _ _ _ ran why.1))

pub returns-in_err-write_ending-clause-writes : goal.returns-in_err-write_ending-clause-writes
returns-in_err-write_ending-clause-writes g c = λ spelled is.
    let p = err_from_is_err_and c.from_residual-in_err-write_ending.result c.from_residual-in_err-write_ending.ensures.1 in
    let ran = c.in_ok-outcome.ensures.ok spelled is in
    let why = c.in_err-write_ending.ensures.err in
    rw (p.1, p.2) (writes_front c.args.form spelled c.in_err-write_ending.field-0.0 _ _ why.0
    (begins_last c.args.form spelled c.in_ok-outcome.outcome (string_bytes c.write_replies.new.pending) _ _ _ _ ran c.in_ok-write_pending.ensures.ok.1 why.1))

pub returns-clause-writes : goal.returns-clause-writes
returns-clause-writes g c = λ spelled is.
    let ran = c.in_ok-outcome.ensures.ok spelled is in
    rw c.run_outcome.ensures.same
    (writes_ended c.args.form spelled c.in_ok-outcome.outcome _ _
    (writes_run c.args.form spelled c.in_ok-outcome.outcome (string_bytes c.write_replies.new.pending) _ _ _ _ ran c.in_ok-write_pending.ensures.ok.1 c.in_ok-write_ending.ensures.ok))

pub returns-in_err-outcome-clause-write_reported : goal.returns-in_err-outcome-clause-write_reported
returns-in_err-outcome-clause-write_reported g c =
    let p = err_from_is_err_and c.from_residual.result c.from_residual.ensures.1 in
    rw (p.1, p.2) c.in_err-outcome.ensures.write_reported

pub returns-in_err-write_pending-clause-write_reported : goal.returns-in_err-write_pending-clause-write_reported
returns-in_err-write_pending-clause-write_reported g c =
    let p = err_from_is_err_and c.from_residual-in_err-write_pending.result c.from_residual-in_err-write_pending.ensures.1 in
    rw (p.1, p.2) (fault_later g.W.Sink.went g.W.Sink.failed c.in_err-write_pending.field-0.0 c.args.writer.now c.write_replies.new.writer c.write_pending.new.writer
    c.in_ok-outcome.ensures.write_reported c.in_err-write_pending.ensures.write_reported)

pub returns-in_err-write_ending-clause-write_reported : goal.returns-in_err-write_ending-clause-write_reported
returns-in_err-write_ending-clause-write_reported g c =
    let p = err_from_is_err_and c.from_residual-in_err-write_ending.result c.from_residual-in_err-write_ending.ensures.1 in
    rw (p.1, p.2) (fault_later g.W.Sink.went g.W.Sink.failed c.in_err-write_ending.field-0.0 c.args.writer.now c.write_pending.new.writer c.write_ending.new.writer
    (went_on g.W.Sink.went g.W.Sink.failed c.args.writer.now c.write_replies.new.writer c.write_pending.new.writer c.in_ok-outcome.ensures.write_reported c.in_ok-write_pending.ensures.write_reported)
    c.in_err-write_ending.ensures.write_reported)

pub returns-clause-write_reported : goal.returns-clause-write_reported
returns-clause-write_reported g c =
    rw c.run_outcome.ensures.same
    (ended_reported g.W.Sink.went g.W.Sink.failed c.in_ok-outcome.outcome c.args.writer.now c.write_ending.new.writer
    (went_on g.W.Sink.went g.W.Sink.failed c.args.writer.now c.write_pending.new.writer c.write_ending.new.writer
    (went_on g.W.Sink.went g.W.Sink.failed c.args.writer.now c.write_replies.new.writer c.write_pending.new.writer c.in_ok-outcome.ensures.write_reported c.in_ok-write_pending.ensures.write_reported)
    c.in_ok-write_ending.ensures.write_reported))
