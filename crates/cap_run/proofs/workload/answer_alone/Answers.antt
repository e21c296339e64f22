use Rattle.std.proofs.Common.{string_bytes}
use Rattle.cap_run.proofs.SeatLemmas.{called_alone}
use Rattle.cap_run.proofs.workload.answer_alone.Goals as goal

pub returns-clause-called : goal.returns-clause-called
returns-clause-called g c =
    let first = c.index_mut-first.result.now in
    called_alone (λ w. w.seat) c.args.shared.now.threads c.args.line.now c.call_line.result (string_bytes c.args.pending.now) (string_bytes c.call_line.new.output) c.args.workers.now.items first
    record { seat = c.call_line.new.seat; given = first.given; texts = first.texts; ended = first.ended } c.requires.seats c.requires.alone c.index_mut-first.ensures.value c.call_line.ensures.ok c.call_line.ensures.err
    c.call_line.ensures.fault
