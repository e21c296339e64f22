-- Where seats stand, and where they do not.
use Rattle.std.proofs.Common.{◌≡◌, ◌≢◌, inl, inr, ℕ, ◌+◌, ◌<◌, ◌≤◌, Some, List, length, refl, ap, sym, subst, ◌∙◌, arith, slice_index_or}
use Rattle.std.proofs.lemmas.Bool.{cases_lt}
use Rattle.std.proofs.lemmas.Option.{slice_get_read, slice_get_within}
use Rattle.cap_history.specs.Seat.{SeatState}
use Rattle.cap_server.specs.Close.{HasAll, IsMissing, StandsAt}

module _ {A : Type 0} where
  -- another seat has this index
  pub not-there : (seats : List (SeatState A)) (number place : ℕ) (seat : SeatState A) → place < length seats → seat ≡ slice_index_or seats place seat → seat.number ≢ number → ¬ StandsAt seats number place
  not-there seats number place seat within is other stands =
      let both : Some stands.seat ≡ Some seat = sym stands.at ∙ slice_get_read seats (length seats) place seat refl within is in
      let same : stands.seat ≡ seat = cc both in
      other (ap (λ s. s.number) (sym same) ∙ stands.is)

  -- it is not among one more
  pub not-among-more : (seats : List (SeatState A)) (number n : ℕ) → ((k : ℕ) → k < n → ¬ StandsAt seats number k) → ¬ StandsAt seats number n → (k : ℕ) → k < n + 1 → ¬ StandsAt seats number k
  not-among-more seats number n below here k within =
      elim (cases_lt k n) [
        | inl less ↦ below k less
        | inr more ↦ let same : n ≡ k = omega arith in subst (λ (m : ℕ). ¬ StandsAt seats number m) same here
      ]

  -- it is not among all
  pub not-among-all : (seats : List (SeatState A)) (number n : ℕ) → ((k : ℕ) → k < n → ¬ StandsAt seats number k) → length seats ≤ n → IsMissing seats number
  not-among-all seats number n below all place stands = let within = slice_get_within seats place stands.seat stands.at in below place (omega (arith, within, all)) stands

  pub stands-there : (seats : List (SeatState A)) (number place : ℕ) (seat : SeatState A) → place < length seats → seat ≡ slice_index_or seats place seat → seat.number ≡ number → StandsAt seats number place
  stands-there seats number place seat within is number_is = record { seat = seat; at = slice_get_read seats (length seats) place seat refl within is; is = number_is }

  -- one more number is a seat's
  pub has-more : (seats : List (SeatState A)) (n place : ℕ) → HasAll seats n → StandsAt seats n place → HasAll seats (n + 1)
  has-more seats n place all stands number within =
      elim (cases_lt number n) [
        | inl less ↦ all number less
        | inr more ↦ let same : n ≡ number = omega arith in subst (λ (m : ℕ). (p : ℕ) × StandsAt seats m p) same (place, stands)
      ]

  pub has-first : (seats : List (SeatState A)) (count : ℕ) → 0 < count → HasAll seats count → HasAll seats 1
  has-first seats count some all number within = all number (omega (arith, some, within))

  -- a seat of which only what it has seen has changed
  pub only-seen : (old new : SeatState A) → new.number ≡ old.number → new.answered ≡ old.answered → new ≡ record old { seen = new.seen }
  only-seen old new numbers answers = λ i. record { number = numbers i; seen = new.seen; answered = answers i }

  -- the seat with an index is the one that is read there
  pub stands-same : (seats : List (SeatState A)) (number place : ℕ) (seat : SeatState A) (stands : StandsAt seats number place) → place < length seats → seat ≡ slice_index_or seats place seat → stands.seat ≡ seat
  stands-same seats number place seat stands within is =
      let both : Some stands.seat ≡ Some seat = sym stands.at ∙ slice_get_read seats (length seats) place seat refl within is in
      cc both
