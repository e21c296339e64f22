use Rattle.std.proofs.Common.{sym, ap, subst, ◌∙◌, arith, slice_index, All, List}
use Rattle.std.proofs.lemmas.List.{take_all}
use Rattle.std.proofs.lemmas.List.Elements.{All-more}
use Rattle.cap_history.specs.Seat.{SeatState}
use Rattle.cap_server.specs.Code.Seats.{Agrees}
use Rattle.cap_server.proofs.handed_back.calls_agree.Goals as goal

pub loop-seat-preserved : goal.loop-seat-preserved
loop-seat-preserved g c =
    let seat = c.seat-item.result in
    let counts = c.args.counts.now in
    let agrees : Agrees g.J.Naming.seats counts seat = record {
      known = omega (arith, c.number-number.ensures.number, c.number-number.ensures.known);
      begins = c.calls.ensures.seen;
      ends = c.calls.ensures.answered;
      counted = ap (λ n. slice_index counts n) (sym c.number-number.ensures.number) ∙ c.if-counts-number.false ∙ c.calls.ensures.calls;
    } in
    All-more (Agrees g.J.Naming.seats counts) c.args.seats.now c.loop-seat.seat-index seat c.loop-seat-test.true c.loop-seat.invariant
    (subst (Agrees g.J.Naming.seats counts) c.seat-item.is agrees)

pub returns : goal.returns
returns g c =
    let seats = c.args.seats.now in
    subst (λ (l : List (SeatState g.row.A.Denot)). All (Agrees g.J.Naming.seats c.args.counts.now) l) (take_all c.loop-seat.seat-index seats c.loop-seat-test.false) c.loop-seat.invariant
