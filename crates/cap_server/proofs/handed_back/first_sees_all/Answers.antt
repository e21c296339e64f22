use Rattle.std.proofs.Common.{◌≡◌, ◌<◌, sym, ap, subst, ◌∙◌, arith, All, List, length, slice_set}
use Rattle.std.proofs.lemmas.List.Elements.{All-weaker}
use mathlib.Core.List.{IsPrefix}
use Rattle.cap_core.specs.declared.event.Event.{Event}
use Rattle.cap_history.specs.Beginnings.{prefix-trans}
use Rattle.cap_history.specs.Seat.{SeatState}
use Rattle.cap_server.specs.Close.{StandsAt}
use Rattle.cap_server.proofs.Places.{only-seen, stands-same}
use Rattle.cap_server.proofs.handed_back.first_sees_all.Goals as goal

pub unreachable-requires : goal.unreachable-requires
unreachable-requires g c =
    let found = c.requires 0 (omega arith) in
    c.in_default.ensures found.0 (subst (λ (l : List (SeatState g.row.A.Denot)). StandsAt l 0 found.0) (sym c.as_slice-2.ensures.value) found.1)

pub returns : goal.returns
returns g c =
    let items = c.args.seats.now.items in
    let place = c.in-Some.place in
    let value = c.as_slice-2.ensures.value in
    let first : StandsAt items 0 place = subst (λ (l : List (SeatState g.row.A.Denot)). StandsAt l 0 place) value c.in-Some.ensures.0 in
    let within : place < length items = subst (λ (l : List (SeatState g.row.A.Denot)). place < length l) value c.in-Some.ensures.1 in
    let old = c.index_mut-first.result.now in
    let new = c.look.new.seat in
    let same : first.seat ≡ old = stands-same items 0 place old first within c.index_mut-first.ensures.value in
    let numbers = c.look.ensures.seen.number ∙ c.see.ensures.seen.number ∙ sym (ap (λ (s : SeatState g.row.A.Denot). s.number) same) in
    let answers = c.look.ensures.seen.answered ∙ c.see.ensures.seen.answered ∙ sym (ap (λ (s : SeatState g.row.A.Denot). s.answered) same) in
    let all = c.meet_all.new.list in
    let shown : IsPrefix all new.seen = prefix-trans all c.see.new.self.seen new.seen c.see.ensures.list c.look.ensures.seen.seen in
    record {
      place = place;
      first = first;
      history = new.seen;
      legal = c.look.ensures.seen.legal;
      blobs = c.look.ensures.seen.blobs;
      front_is = sym c.look.ensures.front;
      seen = subst (λ (l : List (SeatState g.row.A.Denot)). All (λ s. IsPrefix s.seen new.seen) l) c.as_slice.ensures.value
          (All-weaker (λ (s : SeatState g.row.A.Denot). IsPrefix s.seen all) (λ s. IsPrefix s.seen new.seen) (λ s before. prefix-trans s.seen all new.seen before shown) c.as_slice.result.now c.meet_all.ensures.seats);
      begins = prefix-trans c.args.list.now all new.seen (subst (λ (l : List (Event g.row.A.Denot)). IsPrefix l all) c.again-all.ensures c.meet_all.ensures.list) shown;
      seats = ap (λ (s : SeatState g.row.A.Denot). slice_set items place s) (only-seen first.seat new numbers answers);
    }
