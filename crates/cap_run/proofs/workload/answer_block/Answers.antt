use Rattle.std.proofs.Common.{◌∙◌, [], arith, map, string_bytes, subst, sym}
use Rattle.std.specs.List.{AllZip}
use Rattle.cap_run.specs.Code.Calls.{AreSeats, Gathers, HasWorked, IsFaultOf, first_seen, work}
use Rattle.cap_run.proofs.GatherLemmas.{met_seats, worked_called, worked_length, worked_still}
use Rattle.cap_run.proofs.SeatLemmas.{some_worker}
use Rattle.cap_run.proofs.workload.answer_block.Goals as goal

-- there is seat 0
pub each_meets_first-requires : goal.each_meets_first-requires
each_meets_first-requires g c =
    let some = some_worker (λ w. w.seat) c.args.shared.now.threads c.args.workers.items c.requires.seats in
    record { some = omega (arith, some, c.args.workers.ok.0) }

pub first_meets_each-requires : goal.first_meets_each-requires
first_meets_each-requires g c =
    let some = some_worker (λ w. w.seat) c.args.shared.now.threads c.args.workers.items c.requires.seats in
    let worked = worked_length (λ w. w.seat) (λ w. map string_bytes w.texts.items) (λ w. w.ended) c.args.shared.now.threads c.args.block.now c.each_meets_first.new.workers.items c.run_block-workers.result.items
    c.run_block-workers.ensures.worked in
    record {
      some = omega (arith, some, c.args.workers.ok.0, c.each_meets_first.ensures.len, c.each_meets_first.new.workers.ok.0, worked, c.run_block-workers.result.ok.0);
    }

pub gather-outcome-requires-clause-worked : goal.gather-outcome-requires-clause-worked
gather-outcome-requires-clause-worked g c =
    let met = c.each_meets_first.new.workers.items in (
      map (λ w. w.seat) met,
      met_seats c.args.shared.now.threads (first_seen (map (λ w. w.seat) c.args.workers.items)) (map (λ w. w.seat) c.args.workers.items) (map (λ w. w.seat) met) c.each_meets_first.ensures.met c.requires.seats,
      subst (λ ws. AllZip (HasWorked c.args.shared.now.threads c.args.block.now) (map (λ w. w.seat) met) (map (λ w. work w.seat (map string_bytes w.texts.items) w.ended) ws))
          (sym c.as_slice.ensures.value) c.run_block-workers.ensures.worked,
    )

pub returns-clause-seats : goal.returns-clause-seats
returns-clause-seats g c =
    let threads = c.args.shared.now.threads in
    let first = c.args.workers.items in
    let met = c.each_meets_first.new.workers.items in
    let before = met_seats threads (first_seen (map (λ w. w.seat) first)) (map (λ w. w.seat) first) (map (λ w. w.seat) met) c.each_meets_first.ensures.met c.requires.seats in
    let worked = worked_still (λ w. w.seat) (λ w. map string_bytes w.texts.items) (λ w. w.ended) threads c.args.block.now met c.run_block-workers.result.items c.run_block-workers.ensures.worked before in
    met_seats threads [] (map (λ w. w.seat) c.run_block-workers.result.items) (map (λ w. w.seat) c.first_meets_each.new.workers.items) c.first_meets_each.ensures.met worked

pub returns-clause-len : goal.returns-clause-len
returns-clause-len g c =
    c.first_meets_each.ensures.len ∙ c.run_block-workers.result.ok.0
    ∙ worked_length (λ w. w.seat) (λ w. map string_bytes w.texts.items) (λ w. w.ended) c.args.shared.now.threads c.args.block.now c.each_meets_first.new.workers.items c.run_block-workers.result.items
    c.run_block-workers.ensures.worked ∙ sym c.each_meets_first.new.workers.ok.0 ∙ c.each_meets_first.ensures.len

pub returns-clause-called : goal.returns-clause-called
returns-clause-called g c =
    let threads = c.args.shared.now.threads in
    let lines = c.args.block.now in
    let out = c.gather-outcome.result in
    let gathered = c.gather-outcome.ensures.gathered in
    let texts = subst (λ ws. Gathers threads lines (map (λ w. map string_bytes w.texts.items) ws) out gathered.0) c.as_slice.ensures.value gathered.2 in (
      gathered.0,
      gathered.1,
      worked_called (λ w. w.seat) (λ w. map string_bytes w.texts.items) (λ w. w.ended) threads lines out gathered.0 c.args.workers.items c.each_meets_first.new.workers.items c.run_block-workers.result.items
          c.first_meets_each.new.workers.items c.requires.at c.each_meets_first.ensures.met c.run_block-workers.ensures.worked c.first_meets_each.ensures.met c.first_meets_each.ensures.seen c.requires.seats texts
          (subst (λ ws. IsFaultOf (map (λ w. work w.seat (map string_bytes w.texts.items) w.ended) ws) out) c.as_slice.ensures.value c.gather-outcome.ensures.fault),
    )
