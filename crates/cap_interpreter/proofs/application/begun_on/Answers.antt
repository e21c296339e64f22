use Rattle.cap_interpreter.proofs.StopLemmas.{begun_keeps, begun_stop}
use Rattle.cap_interpreter.proofs.application.begun_on.Goals as goal

pub returns : goal.returns
returns g c =
    let stop = begun_stop c.args.database.now c.args.blob.now c.in_ok-blob.blob c.args.filter.now c.in_ok-filter.filter c.in_ok-applier.applier c.in_ok-blob.ensures c.in_ok-filter.ensures c.in_ok-applier.ensures c.stands.ensures in
    let law = c.applications_keep_to_the_rows_that_they_look_at.ensures in
    record { stop = stop.0; filter = stop.1; keeps = begun_keeps law.between law.first c.args.database.now c.in_ok-blob.blob c.in_ok-filter.filter c.in_ok-applier.applier c.in_ok-applier.ensures }
