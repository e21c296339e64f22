use Rattle.std.proofs.Common.{◌≡◌}
use Rattle.cap_run.specs.declared.fault.RunFault.TheVariants.{Write}
use Rattle.cap_run.proofs.OutputLemmas.{writes_later}
use Rattle.cap_run.proofs.workload.run_with_workers.Goals as goal
use Rattle.cap_run.proofs.workload.run_with_workers.Goals.{in-Ok, in-Err}

pub returns-clause-runs : goal.returns-clause-runs
returns-clause-runs g c = λ spelled is.
    let called = c.answer_all-workers.ensures.called spelled is in
    elim c.match-outcome.branch [
      | in-Ok w ↦ rw (w.outcome-is, w.writer-is) (w.write_rest-outcome.ensures.runs c.args.shared.now.threads spelled _ _ _ (rw w.in-Ok.is at called))
      | in-Err w ↦
          let why : w.in-Err.fault ≡ Write = rw w.in-Err.is at c.answer_all-workers.ensures.status in
          rw (w.outcome-is, w.writer-is, why) (rw w.in-Err.is at called)
    ]

pub returns-clause-write_reported : goal.returns-clause-write_reported
returns-clause-write_reported g c =
    let called = c.answer_all-workers.ensures.write_reported in
    elim c.match-outcome.branch [
      | in-Ok w ↦
          rw (w.outcome-is, w.writer-is) (writes_later g.W.Sink.went g.W.Sink.failed w.write_rest-outcome.result c.args.writer.now c.answer_all-workers.new.writer w.write_rest-outcome.new.writer
          (rw w.in-Ok.is at called) w.write_rest-outcome.ensures.write_reported)
      | in-Err w ↦ rw (w.outcome-is, w.writer-is) (rw w.in-Err.is at called)
    ]
