use Rattle.std.proofs.Common.{All, [], arith, length, subst, ◌<◌}
use Rattle.std.proofs.lemmas.List.Elements.{All-weaker}
use mathlib.Core.List.{IsPrefix}
use Rattle.cap_history.specs.Beginnings.{prefix-of-none, prefix-trans}
use Rattle.cap_run.proofs.MeetingLemmas.{first_met, first_saw, met_seen}
use Rattle.cap_run.proofs.meeting.first_meets_each.Goals as goal

pub returns-clause-met : goal.returns-clause-met
returns-clause-met g c =
    let items = c.args.workers.now.items in
    let first = c.index_mut.result.now in
    let new = c.see.new.self in
    let some : 0 < length items = omega (arith, c.requires.some, c.args.workers.now.ok.0) in
    first_met (λ w. w.seat) items first record { seat = new; given = first.given; texts = first.texts; ended = first.ended } some c.index_mut.ensures.value
    (met_seen [] first.seat new c.see.ensures.seen (prefix-of-none new.seen))

pub returns-clause-seen : goal.returns-clause-seen
returns-clause-seen g c =
    let items = c.args.workers.now.items in
    let first = c.index_mut.result.now in
    let new = c.see.new.self in
    let all = c.see_each.new.list in
    let some : 0 < length items = omega (arith, c.requires.some, c.args.workers.now.ok.0) in
    first_saw (λ w. w.seat) items record { seat = new; given = first.given; texts = first.texts; ended = first.ended } some
    (All-weaker (λ w. IsPrefix w.seat.seen all) (λ w. IsPrefix w.seat.seen new.seen) (λ w before. prefix-trans w.seat.seen all new.seen before c.see.ensures.list) items
    (subst (λ l. All (λ w. IsPrefix w.seat.seen all) l) c.as_slice.ensures.value c.see_each.ensures.workers))
