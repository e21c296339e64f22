use Rattle.cap_applier.specs.Applier.{merged_at, met}
use Rattle.cap_interpreter.proofs.StopLemmas.{merged_stop}
use Rattle.cap_interpreter.proofs.application.merged.Goals as goal

pub returns : goal.returns
returns g c =
    let stop = merged_stop c.args.applier c.in_ok-to.to c.args.row c.in_ok-to.ensures c.stands.ensures in
    let law = c.applications_keep_to_the_rows_that_they_look_at.ensures in
    record { stop = stop.0; filter = stop.1; keeps = λ base kept. law.between base (merged_at (met c.args.applier) c.args.row c.args.applier) c.in_ok-to.to (law.merged base c.args.applier c.args.row kept) c.in_ok-to.ensures }
