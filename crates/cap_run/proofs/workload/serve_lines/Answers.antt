use Rattle.std.proofs.Common.{◌∙◌, ◌++◌, List, Result, ap, arith, length, map, subst, sym}
use Rattle.std.proofs.lemmas.List.{length-map}
use Rattle.cap_history.specs.Seat.{SeatState}
use Rattle.cap_run.specs.Code.Calls.{AreSeats}
use Rattle.cap_run.specs.Workload.{WritesWorkload}
use Rattle.cap_run.specs.declared.fault.RunFault.{RunFault}
use Rattle.cap_run.proofs.HistoryLemmas.{served_closed, served_unclosed}
use Rattle.cap_run.proofs.OutputLemmas.{unclosed_reported}
use Rattle.cap_run.proofs.SeatLemmas.{newcomers_seats}
use Rattle.cap_run.proofs.workload.serve_lines.Goals as goal

-- the workers have the seats that the server opened with
pub run_with_workers-workers-requires-clause-seats : goal.run_with_workers-workers-requires-clause-seats
run_with_workers-workers-requires-clause-seats g c κs within =
    subst (λ (l : List (SeatState g.row.A.Denot)). AreSeats c.args.threads l) (sym (c.in-Ok-workers_of.ensures.seats ∙ c.in-Ok.ensures)) (newcomers_seats g.row.A.Denot c.args.threads)

pub take_seats-requires : goal.take_seats-requires
take_seats-requires g c =
    let back = c.in-Ok-with_capacity.ensures in
    let workers = c.in-Ok-workers_of.workers in
    let same = ap length c.in-Ok-workers_of.ensures.seats in
    record { room = omega (arith, back.len, back.capacity, c.len.ensures, c.run_with_workers-workers.ensures.len, workers.ok.0, c.in-Ok.seats.ok.0, same, length-map workers.items (λ w. w.seat)) }

pub returns-in-Ok-closed-clause-written : goal.returns-in-Ok-closed-clause-written
returns-in-Ok-closed-clause-written g c = λ input spelled is spells.
    let last = map (λ w. w.seat) c.run_with_workers-workers.result.0.items in
    served_closed c.args.form c.args.threads input spelled c.run_with_workers-workers.result.1 (map (λ w. w.seat) c.in-Ok-workers_of.workers.items) last c.take_seats.new.seats.items c.in-Ok-closed._closed.events c.in-Ok-closed._closed.core _ _
    c.requires.threads.0 is (c.in-Ok-workers_of.ensures.seats ∙ c.in-Ok.ensures) (c.take_seats.ensures.seats ∙ ap (λ (l : List (SeatState g.row.A.Denot)). l ++ last) c.in-Ok-with_capacity.ensures.items)
    (c.run_with_workers-workers.ensures.runs spelled spells) c.in-Ok-closed.ensures.closed.0

pub returns-in-Err-clause-written : goal.returns-in-Err-clause-written
returns-in-Err-clause-written g c = λ input spelled is spells.
    let last = map (λ w. w.seat) c.run_with_workers-workers.result.0.items in
    subst (λ (r : Result (Unit {0}) RunFault). WritesWorkload g.row.A.Denot c.args.form c.args.threads input r (g.W.Sink.contents c.args.writer.now) (g.W.Sink.contents c.run_with_workers-workers.new.writer)) (sym c.outcome_unclosed.ensures.same)
    (served_unclosed c.args.form c.args.threads g.J.Naming.seats input spelled c.run_with_workers-workers.result.1 (map (λ w. w.seat) c.in-Ok-workers_of.workers.items) last c.take_seats.new.seats.items c.in-Err._unclosed.1.items c.in-Err._unclosed.2 _ _
    c.requires.threads.0 (sym c.requires.seats) is (c.in-Ok-workers_of.ensures.seats ∙ c.in-Ok.ensures) (c.take_seats.ensures.seats ∙ ap (λ (l : List (SeatState g.row.A.Denot)). l ++ last) c.in-Ok-with_capacity.ensures.items)
    (c.run_with_workers-workers.ensures.runs spelled spells) c.in-Err.ensures.refused)

pub returns-in-Err-clause-write_reported : goal.returns-in-Err-clause-write_reported
returns-in-Err-clause-write_reported g c =
    rw c.outcome_unclosed.ensures.same
    (unclosed_reported g.W.Sink.went g.W.Sink.failed c.run_with_workers-workers.result.1 c.args.writer.now c.run_with_workers-workers.new.writer c.run_with_workers-workers.ensures.write_reported)
