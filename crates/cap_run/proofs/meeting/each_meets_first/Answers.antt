use Rattle.std.proofs.Common.{arith, length, map, refl, subst, List, ◌<◌, ◌≤◌, ◌∙◌}
use Rattle.std.proofs.lemmas.List.{length-map, length-set}
use mathlib.Core.List.{IsPrefix}
use Rattle.cap_core.specs.declared.event.Event.{Event}
use Rattle.cap_run.specs.Code.Calls.{first_seen}
use Rattle.cap_run.proofs.MeetingLemmas.{first_of, met_all, met_next, met_none, met_seen}
use Rattle.cap_run.proofs.meeting.each_meets_first.Goals as goal

pub loop-place-init : goal.loop-place-init
loop-place-init g c = record {
  met = met_none (first_seen (map (λ w. w.seat) c.args.workers.now.items)) (map (λ w. w.seat) c.args.workers.now.items);
  len = refl;
}

-- one more worker has met seat 0
pub loop-place-preserved : goal.loop-place-preserved
loop-place-preserved g c =
    let old = map (λ w. w.seat) c.args.workers.now.items in
    let items = c.loop-place.workers.items in
    let worker = c.index_mut.result.now in
    let new = c.see.new.self in
    let within : c.loop-place.place < length items = omega (arith, c.loop-place-test.true, c.len-place-end.ensures, c.args.workers.now.ok.0, c.loop-place.invariant.len) in
    let some : 0 < length c.args.workers.now.items = omega (arith, c.requires.some, c.args.workers.now.ok.0) in
    let shown : IsPrefix (first_seen old) new.seen =
    subst (λ (h : List (Event g.row.A.Denot)). IsPrefix h new.seen)
    (c.list-seen.ensures ∙ first_of (λ w. w.seat) c.args.workers.now.items c.index-first.result.now some c.index-first.ensures) c.see.ensures.list in
    record {
      met = met_next (λ w. w.seat) (first_seen old) c.loop-place.place old items worker record { seat = new; given = worker.given; texts = worker.texts; ended = worker.ended } within c.index_mut.ensures.value
          (met_seen (first_seen old) worker.seat new c.see.ensures.seen shown) c.loop-place.invariant.met;
      len = length-set items c.loop-place.place _ ∙ c.loop-place.invariant.len;
    }

pub returns : goal.returns
returns g c =
    let old = map (λ w. w.seat) c.args.workers.now.items in
    let all : length c.loop-place.workers.items ≤ c.loop-place.place = omega (arith, c.loop-place-test.false, c.len-place-end.ensures, c.args.workers.now.ok.0, c.loop-place.invariant.len) in
    record {
      met = met_all (first_seen old) c.loop-place.place old (map (λ w. w.seat) c.loop-place.workers.items) (omega (arith, all, length-map c.loop-place.workers.items (λ w. w.seat))) c.loop-place.invariant.met;
      len = omega (arith, c.loop-place.workers.ok.0, c.args.workers.now.ok.0, c.loop-place.invariant.len);
    }
