use Rattle.cap_interpreter.proofs.StopLemmas.{answered_fault, answered_keeps, answered_stop}
use Rattle.cap_interpreter.proofs.application.answered.Goals as goal

pub returns-in-Ok : goal.returns-in-Ok
returns-in-Ok g c =
    let stop = answered_stop c.args.applier c.in-Ok.to c.args.answer c.in-Ok.ensures c.stands.ensures in
    let law = c.applications_keep_to_the_rows_that_they_look_at.ensures in
    record { stop = stop.0; filter = stop.1; keeps = λ base kept. answered_keeps law.between law.step base c.args.applier c.in-Ok.to c.args.answer c.in-Ok.ensures kept }

pub returns-in-Err : goal.returns-in-Err
returns-in-Err g c = record { stop = answered_fault c.args.applier c.args.answer c.in-Err.fault c.in-Err.ensures; filter = tt; keeps = λ base kept. tt }
