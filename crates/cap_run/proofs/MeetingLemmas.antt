-- Seats that meet the first one, and the first one that meets them.
use Rattle.std.proofs.Common.{add-one, ◌≡◌, ℕ, zero, suc, ◌+◌, ◌<◌, ◌≤◌, List, [], ◌∷◌, length, get_or, map, set, refl, sym, ap, subst, ◌∙◌, arith}
use Rattle.std.specs.List.{All, AllZip}
use mathlib.Core.List.{IsPrefix}
use Rattle.cap_core.specs.declared.event.Event.{Event}
use Rattle.cap_history.specs.Beginnings.{prefix-of-none, prefix-self}
use Rattle.cap_history.specs.Seat.{SeatState, SeesMore}
use Rattle.cap_run.specs.Code.Calls.{EachSawIn, HasMet, first_seen}

module _ {A : Type 0} where
  pub met_seen : (front : List (Event A)) (old new : SeatState A) → SeesMore old new → IsPrefix front new.seen → HasMet front old new
  met_seen front old new so shown = record { number = so.number; answered = so.answered; seen = so.seen; meets = shown }

  met_same : (seat : SeatState A) → HasMet [] seat seat
  met_same seat = record { number = refl; answered = refl; seen = prefix-self seat.seen; meets = prefix-of-none seat.seen }

  each-same : (seats : List (SeatState A)) → AllZip (HasMet []) seats seats
  each-same [] = tt
  each-same (seat ∷ seats) = (met_same seat, each-same seats)

  -- this many of the seats have met, and the others are as they were
  abbrev pub MetSoFar : List (Event A) → ℕ → List (SeatState A) → List (SeatState A) → Type 0
  MetSoFar front count [] [] = Unit {0}
  MetSoFar front count [] (y ∷ new) = ⊥
  MetSoFar front count (x ∷ old) [] = ⊥
  MetSoFar front zero (x ∷ old) (y ∷ new) = (y ≡ x) × MetSoFar front zero old new
  MetSoFar front (suc count) (x ∷ old) (y ∷ new) = HasMet front x y × MetSoFar front count old new

  pub met_none : (front : List (Event A)) (seats : List (SeatState A)) → MetSoFar front zero seats seats
  met_none front [] = tt
  met_none front (seat ∷ seats) = (refl, met_none front seats)

  pub met_all : (front : List (Event A)) (count : ℕ) (old new : List (SeatState A)) → length new ≤ count → MetSoFar front count old new → AllZip (HasMet front) old new
  met_all front count [] [] all so = tt
  met_all front count [] (y ∷ new) all so = absurd so
  met_all front count (x ∷ old) [] all so = absurd so
  met_all front zero (x ∷ old) (y ∷ new) all so = absurd (omega (arith, all))
  met_all front (suc count) (x ∷ old) (y ∷ new) all so = (so.0, met_all front count old new (omega (arith, all)) so.1)

  module _ {W : Type 0} (seat : W → SeatState A) where
    -- one more has met
    met_more : (front : List (Event A)) (count : ℕ) (old : List (SeatState A)) (new : List W) (worker next : W) → count < length new → worker ≡ get_or new count worker → HasMet front (seat worker) (seat next)
        → MetSoFar front count old (map seat new) → MetSoFar front (suc count) old (map seat (set new count next))
    met_more front count old [] worker next within is met so = absurd (omega (arith, within))
    met_more front count [] (y ∷ new) worker next within is met so = absurd so
    met_more front zero (x ∷ old) (y ∷ new) worker next within is met so =
        (subst (λ (s : SeatState A). HasMet front s (seat next)) (ap seat is ∙ so.0) met, so.1)
    met_more front (suc count) (x ∷ old) (y ∷ new) worker next within is met so =
        (so.0, met_more front count old new worker next (omega (arith, within)) is met so.1)

    pub met_next : (front : List (Event A)) (count : ℕ) (old : List (SeatState A)) (new : List W) (worker next : W) → count < length new → worker ≡ get_or new count worker → HasMet front (seat worker) (seat next)
        → MetSoFar front count old (map seat new) → MetSoFar front (count + 1) old (map seat (set new count next))
    met_next front count old new worker next within is met so =
        subst (λ (n : ℕ). MetSoFar front n old (map seat (set new count next))) (sym (add-one count)) (met_more front count old new worker next within is met so)

    pub first_of : (workers : List W) (worker : W) → 0 < length workers → worker ≡ get_or workers 0 worker → (seat worker).seen ≡ first_seen (map seat workers)
    first_of [] worker some is = absurd (omega (arith, some))
    first_of (x ∷ workers) worker some is = ap (λ (w : W). (seat w).seen) is

    -- the first has met the others
    pub first_met : (workers : List W) (worker next : W) → 0 < length workers → worker ≡ get_or workers 0 worker → HasMet [] (seat worker) (seat next)
        → AllZip (HasMet []) (map seat workers) (map seat (set workers 0 next))
    first_met [] worker next some is met = absurd (omega (arith, some))
    first_met (x ∷ workers) worker next some is met = (subst (λ (w : W). HasMet [] (seat w) (seat next)) is met, each-same (map seat workers))

    saw-each : (front : List (Event A)) (workers : List W) → All (λ worker. IsPrefix (seat worker).seen front) workers → EachSawIn front (map seat workers)
    saw-each front [] all = tt
    saw-each front (x ∷ workers) all = (all 0 x (omega arith), saw-each front workers (λ k d within. all (suc k) d (omega (arith, within))))

    pub first_saw : (workers : List W) (next : W) → 0 < length workers → All (λ worker. IsPrefix (seat worker).seen (seat next).seen) workers
        → EachSawIn (first_seen (map seat (set workers 0 next))) (map seat (set workers 0 next))
    first_saw [] next some all = absurd (omega (arith, some))
    first_saw (x ∷ workers) next some all = (prefix-self (seat next).seen, saw-each (seat next).seen workers (λ k d within. all (suc k) d (omega (arith, within))))
