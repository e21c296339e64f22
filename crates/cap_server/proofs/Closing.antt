-- The history whose calls all seats have made is that of a closed server.
use Rattle.std.specs.Prelude.{⊤}
use Rattle.std.proofs.Common.{◌≡◌, ◌≢◌, ◌<◌, Any, slice_index, inl, inr, ℕ, ◌≤◌, List, [], length, ap, sym, subst, ◌∙◌, arith, All, slice_index_or}
use Rattle.std.proofs.lemmas.Bool.{cases_lt}
use mathlib.Core.List.{IsPrefix}
use Rattle.cap_core.specs.declared.event.Event.{Event}
use Rattle.cap_core.specs.Answer.{State, IsLegal, state}
use Rattle.cap_core.specs.Table.{BlobsFit}
use Rattle.cap_history.specs.Beginnings.{prefix-either, prefix-of-none, prefix-trans, prefix-whole}
use Rattle.cap_history.specs.History.{own}
use Rattle.cap_history.specs.Own.{answered-in, own-same}
use Rattle.cap_history.specs.Seat.{SeatState, calls}
use Rattle.cap_locked.specs.Counts.{IsCounted}
use Rattle.cap_locked.specs.Fault.{HasCalls}
use Rattle.cap_server.specs.Close.{ClosesOvertaken, FirstHasSeen, HasAll, IsClosed, MatchCloseFault, WasOvertaken}
use Rattle.cap_server.specs.Code.Seats.{Agrees}
use Rattle.cap_server.specs.declared.fault.CloseFault.{CloseFault}
use Rattle.cap_server.specs.declared.fault.CloseFault.TheVariants.{MissingSeat, Overtaken}

module _ {A : Type 0} where
  -- the history under the lock is a prefix of the one that was seen last, and is as long
  pub closed : (seats : List (SeatState A)) (count events : ℕ) (counts : List ℕ) (core : State A) (history shown : List (Event A)) → IsCounted count counts history → core ≡ state history
      → IsLegal history → BlobsFit history → IsPrefix history shown → length shown ≡ events → events ≤ length history → All (λ seat. IsPrefix seat.seen shown) seats → All (Agrees count counts) seats → HasAll seats count
      → IsClosed seats events core
  closed seats count events counts core history shown counted left legal fits begins long few seen agrees all =
      let same : history ≡ shown = prefix-whole history shown begins (omega (arith, long, few)) in
      let seen' = subst (λ (h : List (Event A)). All (λ (seat : SeatState A). IsPrefix seat.seen h) seats) (sym same) seen in
      record {
        history = history;
        legal = legal;
        blobs = fits;
        events_are = ap length same ∙ long;
        core_is = left;
        seen = seen';
        own_calls = λ k d within.
            let seat = slice_index_or seats k d in
            let agreed = agrees k d within in
            own-same seat.number seat.answered history (prefix-trans seat.answered seat.seen history agreed.begins (seen' k d within))
            (omega (arith, counted.each seat.number agreed.known, agreed.counted));
        no_others = λ number missing. elim (cases_lt number count) [
          | inl within ↦ absurd (let found = all number within in missing found.0 found.1)
          | inr beyond ↦ counted.others number beyond
        ];
      }

  -- the history under the lock has the calls of each seat whose number is counted
  pub all_calls : (seats : List (SeatState A)) (count : ℕ) (counts : List ℕ) (history shown : List (Event A)) → IsCounted count counts history → All (Agrees count counts) seats → IsPrefix history shown
      → All (λ seat. IsPrefix seat.seen shown) seats → All (λ seat. HasCalls seat history) seats
  all_calls seats count counts history shown counted agrees begins seen = λ k d within.
      let seat = slice_index_or seats k d in
      let agreed = agrees k d within in
      let same : length (own seat.number history) ≡ length (calls seat) = sym (counted.each seat.number agreed.known) ∙ agreed.counted in
      let shows : IsPrefix seat.answered shown = prefix-trans seat.answered seat.seen shown agreed.begins (seen k d within) in
      record { count = same; begins = answered-in seat.number seat.answered history agreed.ends (prefix-either seat.answered history shown shows begins) same }

  -- a seat of which other calls are counted
  abbrev pub IsOff : ℕ → List ℕ → SeatState A → Type 0
  IsOff count counts seat = (seat.number < count) × (slice_index counts seat.number ≢ length (calls seat))

  pub differs : (seats : List (SeatState A)) (count : ℕ) (counts : List ℕ) (history : List (Event A)) → IsCounted count counts history → Any (IsOff count counts) seats
      → Any (λ seat. length (own seat.number history) ≢ length (calls seat)) seats
  differs seats count counts history counted (k, seat, within, is, off) = (k, seat, within, is, λ same. off.1 (counted.each seat.number off.0 ∙ same))

  -- what the first seat has seen begins with any shorter list too
  pub shown_by_any : (fault : CloseFault) (missing : ℕ → Type 0) (all : Type 0) (old new : List (SeatState A)) (least : List (Event A)) → MatchCloseFault fault missing (λ front. all × FirstHasSeen old new least front)
      → MatchCloseFault fault missing (λ front. all × FirstHasSeen old new [] front)
  shown_by_any (MissingSeat number) missing all old new least is = is
  shown_by_any (Overtaken front) missing all old new least is =
      (is.0, record { place = is.1.place; first = is.1.first; history = is.1.history; legal = is.1.legal; blobs = is.1.blobs; front_is = is.1.front_is; seen = is.1.seen; begins = prefix-of-none is.1.history; seats = is.1.seats })

  -- the history under the lock is some history
  pub overtaken_by_any : (fault : CloseFault) (missing : ℕ → Type 0) (all : Type 0) (old new : List (SeatState A)) (least : List (Event A)) → MatchCloseFault fault missing (λ front. all × FirstHasSeen old new least front)
      → MatchCloseFault fault (λ number. ⊤) (WasOvertaken old least) → MatchCloseFault fault (λ number. ⊤) (ClosesOvertaken old new)
  overtaken_by_any (MissingSeat number) missing all old new least is why = tt
  overtaken_by_any (Overtaken front) missing all old new least is why = (least, is.1, why)
