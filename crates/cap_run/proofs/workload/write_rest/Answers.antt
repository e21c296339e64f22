use Rattle.std.proofs.Common.{Err, string_bytes, subst, sym}
use Rattle.std.proofs.lemmas.Result.{err_from_is_err_and}
use Rattle.cap_run.specs.Code.Calls.{RunsLines}
use Rattle.cap_run.specs.declared.fault.RunFault.{RunFault}
use Rattle.cap_run.proofs.NextLemmas.{runs_all, runs_most, runs_some}
use Rattle.cap_run.proofs.OutputLemmas.{fault_later, ended_reported}
use Rattle.cap_stream.proofs.CallLemmas.{went_on}
use Rattle.cap_run.proofs.workload.write_rest.Goals as goal

pub returns-in_err-write_pending-clause-runs : goal.returns-in_err-write_pending-clause-runs
returns-in_err-write_pending-clause-runs g c = λ threads lines a b known ran.
    let p = err_from_is_err_and c.from_residual.result c.from_residual.ensures.1 in
    let why = c.in_err-write_pending.ensures.err in
    rw (p.1, p.2) (subst (λ (f : RunFault). RunsLines c.args.form threads lines (Err f) a b known (g.W.Sink.contents c.write_pending.new.writer)) (sym why.0) (runs_some c.args.form threads lines c.args.outcome (string_bytes c.args.pending.now) a b known _ _ ran why.1))

pub returns-in_err-write_ending-clause-runs : goal.returns-in_err-write_ending-clause-runs
returns-in_err-write_ending-clause-runs g c = λ threads lines a b known ran.
    let p = err_from_is_err_and c.from_residual-in_err-write_ending.result c.from_residual-in_err-write_ending.ensures.1 in
    let why = c.in_err-write_ending.ensures.err in
    rw (p.1, p.2) (subst (λ (f : RunFault). RunsLines c.args.form threads lines (Err f) a b known (g.W.Sink.contents c.write_ending.new.writer)) (sym why.0)
    (runs_most c.args.form threads lines c.args.outcome (string_bytes c.args.pending.now) a b known _ _ _ ran c.in_ok-write_pending.ensures.ok.1 why.1))

pub returns-in_err-write_pending-clause-write_reported : goal.returns-in_err-write_pending-clause-write_reported
returns-in_err-write_pending-clause-write_reported g c =
    let p = err_from_is_err_and c.from_residual.result c.from_residual.ensures.1 in
    rw (p.1, p.2) c.in_err-write_pending.ensures.write_reported

pub returns-in_err-write_ending-clause-write_reported : goal.returns-in_err-write_ending-clause-write_reported
returns-in_err-write_ending-clause-write_reported g c =
    let p = err_from_is_err_and c.from_residual-in_err-write_ending.result c.from_residual-in_err-write_ending.ensures.1 in
    rw (p.1, p.2) (fault_later g.W.Sink.went g.W.Sink.failed c.in_err-write_ending.field-0.0 c.args.writer.now c.write_pending.new.writer c.write_ending.new.writer
    c.in_ok-write_pending.ensures.write_reported c.in_err-write_ending.ensures.write_reported)

pub returns-clause-write_reported : goal.returns-clause-write_reported
returns-clause-write_reported g c =
    rw c.run_outcome.ensures.same
    (ended_reported g.W.Sink.went g.W.Sink.failed c.args.outcome c.args.writer.now c.write_ending.new.writer
    (went_on g.W.Sink.went g.W.Sink.failed c.args.writer.now c.write_pending.new.writer c.write_ending.new.writer c.in_ok-write_pending.ensures.write_reported c.in_ok-write_ending.ensures.write_reported))

pub returns-clause-runs : goal.returns-clause-runs
returns-clause-runs g c = λ threads lines a b known ran.
    rw c.run_outcome.ensures.same
    (runs_all c.args.form threads lines c.args.outcome (string_bytes c.args.pending.now) a b known _ _ _ ran c.in_ok-write_pending.ensures.ok.1 c.in_ok-write_ending.ensures.ok)
