use Rattle.std.proofs.Common.{◌≡◌, ◌≤◌, ◌<◌, ◌+◌, ◌∙◌, ◌++◌, ℕ, List, ap, arith, get_or, inl, length, map, refl, set, string_bytes, subst, sym, take}
use Rattle.std.proofs.lemmas.List.{length-map}
use Rattle.cap_locked.specs.declared.fault.CallFault.TheVariants.{OutOfMemory}
use Rattle.cap_run.proofs.GatherLemmas.{IsGatheredSo, gathered_begun, gathered_done, gathered_ended, gathered_line, gathered_stopped, worked_ended, worked_some}
use Rattle.cap_run.proofs.workload.gather.Goals as goal

pub loop-line-init : goal.loop-line-init
loop-line-init g c = gathered_begun c.args.threads (map (λ w. map string_bytes w.texts.items) c.args.workers.now) (string_bytes c.args.pending.now)

-- there is a worker for each seat
pub offset_bounds-workers-seat : goal.offset_bounds-workers-seat
offset_bounds-workers-seat g c =
    let inside = worked_some (λ w. w.seat) (λ w. map string_bytes w.texts.items) (λ w. w.ended) c.args.threads c.seat_of-seat.result c.args.block.now c.requires.worked.0 c.args.workers.now c.requires.worked.2 c.requires.worked.1
    c.seat_of-seat.ensures.most in
    omega arith

pub bounds-workers-seat : goal.bounds-workers-seat
bounds-workers-seat g c =
    worked_some (λ w. w.seat) (λ w. map string_bytes w.texts.items) (λ w. w.ended) c.args.threads c.seat_of-seat.result c.args.block.now c.requires.worked.0 c.args.workers.now c.requires.worked.2 c.requires.worked.1
    c.seat_of-seat.ensures.most

-- the worker has no text for the line
pub returns-in_default : goal.returns-in_default
returns-in_default g c =
    let worker = c.index-workers-seat.result in
    let worked = c.requires.worked in
    let most = c.requires.threads.1 in
    let few = c.seat_of-seat.ensures.most in
    let there = worked_some (λ w. w.seat) (λ w. map string_bytes w.texts.items) (λ w. w.ended) c.args.threads c.seat_of-seat.result c.args.block.now worked.0 c.args.workers.now worked.2 worked.1 few in
    let none : length (map string_bytes worker.texts.items) ≤ get_or c.loop-line.taken c.seat_of-seat.result 0 =
    omega (arith, c.in_default.ensures.lookup.3, ap length c.deref.ensures.value, length-map worker.texts.items string_bytes) in
    record {
      gathered = gathered_ended (λ w. w.seat) (λ w. map string_bytes w.texts.items) (λ w. w.ended) c.args.threads c.loop-line.line-index c.seat_of-seat.result c.args.block.now c.line-item.result worked.0 c.args.workers.now
          worker c.loop-line.taken (string_bytes c.args.pending.now) (string_bytes c.loop-line.pending) c.requires.threads.0 most worked.1 worked.2 c.loop-line-test.true c.line-item.is
          c.seat_of-seat.ensures.seat (omega (arith, few, most)) there c.index-workers-seat.is none c.loop-line.invariant;
      fault = worked_ended (λ w. w.seat) (λ w. map string_bytes w.texts.items) (λ w. w.ended) c.seat_of-seat.result c.args.workers.now worker there c.index-workers-seat.is;
    }

-- out of memory
pub returns-in-Err : goal.returns-in-Err
returns-in-Err g c = record {
  gathered = gathered_stopped c.args.threads c.loop-line.line-index OutOfMemory c.args.block.now c.line-item.result _ c.loop-line.taken (string_bytes c.args.pending.now) (string_bytes c.push_str.new.self)
      c.requires.threads.0 c.requires.threads.1 c.loop-line-test.true
      (subst (λ (t : List ℕ). IsGatheredSo c.args.threads (take c.loop-line.line-index c.args.block.now) (map (λ w. map string_bytes w.texts.items) c.args.workers.now) c.loop-line.taken (string_bytes c.args.pending.now) t) (sym c.in-Err.ensures.bytes) c.loop-line.invariant);
  fault = inl refl;
}

pub loop-line-preserved : goal.loop-line-preserved
loop-line-preserved g c =
    let few = c.seat_of-seat.ensures.most in
    let most = c.requires.threads.1 in
    let texts = c.deref.ensures.value in
    let seat = c.seat_of-seat.result in
    let worker = c.index-workers-seat.result in
    let worked = c.requires.worked in
    let there = worked_some (λ w. w.seat) (λ w. map string_bytes w.texts.items) (λ w. w.ended) c.args.threads seat c.args.block.now worked.0 c.args.workers.now worked.2 worked.1 few in
    let less : get_or c.loop-line.taken seat 0 < length worker.texts.items =
    subst (λ l. get_or c.loop-line.taken seat 0 < length l) texts c.in-Some.ensures.lookup.3.0 in
    let known = worker.texts in
    let more : c.saturating_add.result ≡ get_or c.loop-line.taken seat 0 + 1 = omega (arith, c.saturating_add.ensures, less, known.ok.0, known.ok.1, known.small) in
    gathered_line (λ w. w.texts.items) string_bytes c.args.threads c.loop-line.line-index c.args.block.now c.line-item.result c.args.workers.now worker c.in-Some.text.now
    c.loop-line.taken _ (string_bytes c.args.pending.now) (string_bytes c.loop-line.pending) (string_bytes c.push_str.new.self) seat c.loop-line-test.true c.line-item.is c.seat_of-seat.ensures.seat
    (omega (arith, few, most)) there c.index-workers-seat.is less
    (c.in-Some.ensures.lookup.1 ∙ ap (λ l. get_or l (get_or c.loop-line.taken seat 0) c.in-Some.text.now) texts)
    (ap (set c.loop-line.taken seat) more) (c.in_default-push_str.ensures.bytes ∙ ap (λ (t : List ℕ). string_bytes c.loop-line.pending ++ t) c.as_str.ensures.value) c.loop-line.invariant

pub returns : goal.returns
returns g c =
    let ended : length c.args.block.now ≤ c.loop-line.line-index = (let over = c.loop-line-test.false in omega (arith, over)) in
    record {
      gathered = gathered_done c.args.threads c.loop-line.line-index c.args.block.now _ c.loop-line.taken (string_bytes c.args.pending.now) (string_bytes c.loop-line.pending) c.requires.threads.0 c.requires.threads.1 ended
          c.loop-line.invariant;
      fault = tt;
    }
