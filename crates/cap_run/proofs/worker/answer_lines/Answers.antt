use Rattle.std.proofs.Common.{◌∙◌, ◌≤◌, ℕ, List, Ok, [], ap, arith, length, map, refl, string_bytes, subst, sym}
use Rattle.std.proofs.lemmas.Result.{err_from_is_err_and}
use Rattle.cap_run.specs.Code.Calls.{HasCalledLines}
use Rattle.cap_run.proofs.WorkerLemmas.{lines_done, lines_next, lines_none, lines_passed, lines_stopped}
use Rattle.cap_run.proofs.worker.answer_lines.Goals as goal
use Rattle.cap_run.proofs.worker.answer_lines.Goals.{then-seat_of-number+in_ok-answer_own, else-seat_of-number}

pub loop-line-init : goal.loop-line-init
loop-line-init g c =
    let seat = c.args.worker.now.seat in
    subst (λ (texts : List (List ℕ)). HasCalledLines c.args.shared.now.threads [] (Ok tt) texts seat seat) (sym (ap (map string_bytes) c.requires.none)) (lines_none c.args.shared.now.threads seat)

-- the line is the worker's and has its reply, or it is another's
pub loop-line-preserved : goal.loop-line-preserved
loop-line-preserved g c =
    let threads = c.args.shared.now.threads in
    let seat = c.args.worker.now.seat in
    let index = c.loop-line.line-index in
    let line = c.line-item.result in
    let texts = map string_bytes c.loop-line.worker.texts.items in
    elim c.if-seat_of-number.branch [
      | then-seat_of-number+in_ok-answer_own w ↦
          let answered = w.in_ok-answer_own.ensures.ok in
          rw w.worker-is
          (lines_next threads seat.number index c.args.block.now line texts _ answered.0 seat c.loop-line.worker.seat _ c.loop-line-test.true c.line-item.is
          (sym c.seat_of.ensures.seat ∙ w.if-seat_of-number.true ∙ c.number-number.ensures.number) refl c.loop-line.invariant answered.1 answered.2)
      | else-seat_of-number w ↦
          rw w.worker-is
          (lines_passed threads seat.number index c.args.block.now line texts seat c.loop-line.worker.seat c.loop-line-test.true c.line-item.is
          (λ same. w.if-seat_of-number.false (c.seat_of.ensures.seat ∙ same ∙ sym c.number-number.ensures.number)) c.loop-line.invariant)
    ]

-- a line has no reply
pub returns-in_err-answer_own : goal.returns-in_err-answer_own
returns-in_err-answer_own g c =
    let p = err_from_is_err_and c.from_residual.result c.from_residual.ensures.1 in
    let left = c.in_err-answer_own.ensures.err in
    let seat = c.args.worker.now.seat in
    rw (p.1, p.2, left.1)
    record {
      called = lines_stopped c.args.shared.now.threads seat.number c.loop-line.line-index c.in_err-answer_own.field-0.0 c.args.block.now c.line-item.result (map string_bytes c.loop-line.worker.texts.items) seat
          c.loop-line.worker.seat c.answer_own.new.worker.seat c.loop-line-test.true c.line-item.is (sym c.seat_of.ensures.seat ∙ c.if-seat_of-number.true ∙ c.number-number.ensures.number) c.loop-line.invariant left.0 c.in_err-answer_own.ensures.fault;
    }

pub returns : goal.returns
returns g c =
    let ended : length c.args.block.now ≤ c.loop-line.line-index = (let over = c.loop-line-test.false in omega (arith, over)) in
    let seat = c.args.worker.now.seat in
    record {
      called = lines_done c.args.shared.now.threads seat.number c.loop-line.line-index c.args.block.now (map string_bytes c.loop-line.worker.texts.items) seat c.loop-line.worker.seat ended c.loop-line.invariant;
    }
