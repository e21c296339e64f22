use Rattle.std.proofs.Common.{◌≡◌, inl, inr, Any, ◌≤◌, ℕ, refl, subst, sym, ap, ◌∙◌, arith, All, List, length}
use Rattle.cap_core.specs.Answer.{state}
use Rattle.cap_core.specs.declared.event.Event.{Event}
use Rattle.cap_history.specs.Seat.{SeatState}
use Rattle.cap_locked.specs.Counts.{IsCounted}
use Rattle.cap_server.specs.Close.{FirstHasSeen, HasAll, IsMissing, WasOvertaken}
use Rattle.cap_server.specs.Code.Seats.{Agrees}
use Rattle.cap_server.proofs.Closing.{IsOff, all_calls, closed, differs}
use Rattle.cap_server.proofs.Places.{has-first}
use Rattle.cap_server.proofs.locked.Locked.close.Goals as goal

pub returns-in-Some-clause-refused : goal.returns-in-Some-clause-refused
returns-in-Some-clause-refused g c =
    let value = c.as_slice.ensures.value in
    let number = c.in-Some.number in (
      refl,
      omega (arith, c.seats-count.ensures, c.self.invariant.1, c.in-Some.ensures.0),
      subst (λ (l : List (SeatState g.row.A.Denot)). IsMissing l number) value c.in-Some.ensures.1,
      subst (λ (l : List (SeatState g.row.A.Denot)). HasAll l number) value c.in-Some.ensures.2,
    )

pub first_sees_all-events-requires : goal.first_sees_all-events-requires
first_sees_all-events-requires g c =
    let all = subst (λ (l : List (SeatState g.row.A.Denot)). HasAll l c.seats-count.result) c.as_slice.ensures.value c.in_default.ensures in
    has-first c.args.seats.items c.seats-count.result (omega (arith, c.counts.ensures.counted.some, c.seats-count.ensures)) all

pub returns-then-not-agree-clause-refused : goal.returns-then-not-agree-clause-refused
returns-then-not-agree-clause-refused g c =
    let all = subst (λ (l : List (SeatState g.row.A.Denot)). HasAll l c.seats-count.result) c.as_slice.ensures.value c.in_default.ensures in
    let seen = λ (l : List (Event g.row.A.Denot)). FirstHasSeen c.args.seats.items c.first_sees_all-events.new.seats.items l c.first_sees_all-events.result in (
      subst (λ (n : ℕ). HasAll c.args.seats.items n) (c.seats-count.ensures ∙ c.self.invariant.1) all,
      subst seen c.list-list.ensures c.first_sees_all-events.ensures,
    )

pub returns-then-not-agree-clause-overtaken : goal.returns-then-not-agree-clause-overtaken
returns-then-not-agree-clause-overtaken g c =
    let count = g.J.Naming.seats in
    let counts = c.counts.result.now in
    let log = c.self.inside.locked.log in
    let counted : IsCounted count counts log = subst (λ (n : ℕ). IsCounted n counts log) c.self.invariant.1 c.counts.ensures.counted in
    let some = subst (λ (l : List (SeatState g.row.A.Denot)). Any (IsOff count counts) l) c.as_slice-2.ensures.value c.if-not-agree.ensures in
    rw (← c.self.view_is) (inr (differs c.args.seats.items count counts log counted some))

pub returns-then-events-len-clause-refused : goal.returns-then-events-len-clause-refused
returns-then-events-len-clause-refused g c =
    let all = subst (λ (l : List (SeatState g.row.A.Denot)). HasAll l c.seats-count.result) c.as_slice.ensures.value c.in_default.ensures in
    let seen = λ (l : List (Event g.row.A.Denot)). FirstHasSeen c.args.seats.items c.first_sees_all-events.new.seats.items l c.first_sees_all-events.result in (
      subst (λ (n : ℕ). HasAll c.args.seats.items n) (c.seats-count.ensures ∙ c.self.invariant.1) all,
      subst seen c.list-list.ensures c.first_sees_all-events.ensures,
    )

pub returns-then-events-len-clause-overtaken : goal.returns-then-events-len-clause-overtaken
returns-then-events-len-clause-overtaken g c =
    let seats = c.args.seats.items in
    let count = g.J.Naming.seats in
    let counts = c.counts.result.now in
    let log = c.self.inside.locked.log in
    let list = c.list-list.result in
    let same : log ≡ list = c.self.view_is ∙ sym c.list-list.ensures in
    let counted : IsCounted count counts list =
    subst (λ (l : List (Event g.row.A.Denot)). IsCounted count counts l) same (subst (λ (n : ℕ). IsCounted n counts log) c.self.invariant.1 c.counts.ensures.counted) in
    let shown = c.first_sees_all-events.ensures in
    let agree = subst (λ (l : List (SeatState g.row.A.Denot)). All (Agrees count counts) l) c.as_slice-2.ensures.value c.if-not-agree.ensures in
    subst (λ (l : List (Event g.row.A.Denot)). WasOvertaken seats l c.first_sees_all-events.result) c.list-list.ensures (inl (
      all_calls seats count counts list shown.history counted agree shown.begins shown.seen,
      omega (arith, c.len.ensures.length),
    ))

pub returns-clause-closed : goal.returns-clause-closed
returns-clause-closed g c =
    let seats = c.args.seats.items in
    let count = g.J.Naming.seats in
    let counts = c.counts.result.now in
    let log = c.self.inside.locked.log in
    let list = c.list-list.result in
    let same : log ≡ list = c.self.view_is ∙ sym c.list-list.ensures in
    let counted : IsCounted count counts list =
    subst (λ (l : List (Event g.row.A.Denot)). IsCounted count counts l) same (subst (λ (n : ℕ). IsCounted n counts log) c.self.invariant.1 c.counts.ensures.counted) in
    let shown = c.first_sees_all-events.ensures in
    let known = subst (λ (n : ℕ). HasAll seats n) (c.seats-count.ensures ∙ c.self.invariant.1)
    (subst (λ (l : List (SeatState g.row.A.Denot)). HasAll l c.seats-count.result) c.as_slice.ensures.value c.in_default.ensures) in
    let agree = subst (λ (l : List (SeatState g.row.A.Denot)). All (Agrees count counts) l) c.as_slice-2.ensures.value c.if-not-agree.ensures in
    let few : c.first_sees_all-events.result ≤ length list = omega (arith, c.len.ensures.length) in (
      closed seats count c.first_sees_all-events.result counts c.into_core-core.result list shown.history counted (c.into_core-core.ensures ∙ ap state same)
          c.len.ensures.history.legal c.len.ensures.history.blobs shown.begins shown.front_is few shown.seen agree known,
      known,
    )
