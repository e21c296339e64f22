use Rattle.std.proofs.Common.{subst, take, All, List}
use Rattle.std.proofs.lemmas.List.{take_all}
use Rattle.std.proofs.lemmas.List.Elements.{All-more, All-weaker}
use mathlib.Core.List.{IsPrefix}
use Rattle.cap_core.specs.declared.event.Event.{Event}
use Rattle.cap_history.specs.Beginnings.{prefix-trans}
use Rattle.cap_history.specs.Seat.{SeatState}
use Rattle.cap_server.proofs.handed_back.meet_all.Goals as goal

pub loop-seat-preserved : goal.loop-seat-preserved
loop-seat-preserved g c =
    let seat = c.seat-item.result in
    let seats = c.args.seats.now in
    let new = c.meet-in-loop-seat.new.self in
    let old = c.loop-seat.list in
    let longer = c.meet-in-loop-seat.ensures.this in
    record {
      list = prefix-trans c.args.list.now old new c.loop-seat.invariant.list longer;
      seats =
          All-more (λ s. IsPrefix s.seen new) seats c.loop-seat.seat-index seat c.loop-seat-test.true
          (All-weaker (λ s. IsPrefix s.seen old) (λ s. IsPrefix s.seen new) (λ s before. prefix-trans s.seen old new before longer) (take c.loop-seat.seat-index seats) c.loop-seat.invariant.seats)
          (subst (λ (s : SeatState g.row.A.Denot). IsPrefix s.seen new) c.seat-item.is (subst (λ (l : List (Event g.row.A.Denot)). IsPrefix l new) c.list.ensures c.meet-in-loop-seat.ensures.that));
    }

pub returns-clause-seats : goal.returns-clause-seats
returns-clause-seats g c =
    let list = c.loop-seat.list in
    subst (λ (l : List (SeatState g.row.A.Denot)). All (λ s. IsPrefix s.seen list) l) (take_all c.loop-seat.seat-index c.args.seats.now c.loop-seat-test.false) c.loop-seat.invariant.seats
