use Rattle.std.proofs.Common.{◌∙◌, ◌≤◌, ap, arith, length, sym, take_all}
use Rattle.cap_run.specs.Code.Calls.{seat_lines}
use Rattle.cap_run.proofs.WorkerLemmas.{given_some, seat_lines-passed}
use Rattle.cap_run.proofs.worker.is_given.Goals as goal

-- the line is the seat's
pub returns-then-seat_of-seat : goal.returns-then-seat_of-seat
returns-then-seat_of-seat g c =
    given_some c.args.threads c.args.seat c.loop-line.line-index c.args.block.now c.line-item.result c.loop-line-test.true c.line-item.is
    (sym c.seat_of.ensures.seat ∙ c.if-seat_of-seat.true)

pub loop-line-preserved : goal.loop-line-preserved
loop-line-preserved g c =
    seat_lines-passed c.args.threads c.args.seat c.loop-line.line-index c.args.block.now c.line-item.result c.loop-line-test.true c.line-item.is
    (λ same. c.if-seat_of-seat.false (c.seat_of.ensures.seat ∙ same)) ∙ c.loop-line.invariant

pub returns : goal.returns
returns g c =
    let ended : length c.args.block.now ≤ c.loop-line.line-index = (let over = c.loop-line-test.false in omega (arith, over)) in
    ap (seat_lines c.args.threads c.args.seat) (sym (take_all c.loop-line.line-index c.args.block.now ended)) ∙ c.loop-line.invariant
