-- Lemmas on the events of one seat in histories.
use Rattle.std.proofs.Common.{◌≡◌, ◌≢◌, ◌⊎◌, ℕ, ◌+◌, ◌<◌, ◌≤◌, true, false, List, [], ◌∷◌, ◌++◌, length, refl, ap}
use Rattle.std.proofs.Common.{◌∙◌, sym, arith, inl, inr, length-append, nat_eq, nat_le}
use Rattle.std.proofs.lemmas.List.{append-nil, nil_from_length}
use Rattle.std.proofs.lemmas.List.Elements.{filter-append}
use Rattle.std.proofs.lemmas.List.Sums.{count_by-le-length, length-filter}
use Rattle.std.proofs.lemmas.Bool.Decides.{nat_tests}
use mathlib.Core.List.{IsPrefix}
use Rattle.cap_core.specs.declared.command.Command.{Command}
use Rattle.cap_core.specs.declared.event.Event.{Event}
use Rattle.cap_core.specs.declared.reply.Reply.{Reply}
use Rattle.cap_core.specs.Answer.{event_by}
use Rattle.cap_history.specs.Beginnings.{prefix-either, prefix-shorter}
use Rattle.cap_history.specs.History.{own}
use Rattle.cap_history.specs.Seat.{IsAnswered}

nat_eq-same : (n : ℕ) → nat_eq n n ≡ true
nat_eq-same n = grind (arith, nat_tests)

nat_eq-other : (n m : ℕ) → n ≢ m → nat_eq n m ≡ false
nat_eq-other n m other = grind (arith, nat_tests)

module _ {A : Type 0} where
  pub own-append : (number : ℕ) (xs ys : List (Event A))
      → own number (xs ++ ys) ≡ own number xs ++ own number ys
  own-append number xs ys = filter-append (λ event. nat_eq event.by number) xs ys

  pub own-few : (number : ℕ) (xs : List (Event A)) → length (own number xs) ≤ length xs
  own-few number xs =
      omega (
        arith,
        length-filter (λ (event : Event A). nat_eq event.by number) xs,
        count_by-le-length (λ (event : Event A). nat_eq event.by number) xs,
      )

  -- a seat's own event
  pub own-one : (number : ℕ) (command : Command A) (reply : Reply A)
      → own number (event_by number command reply ∷ []) ≡ event_by number command reply ∷ []
  own-one number command reply = rw (nat_eq-same number)

  -- another's
  pub own-other : (number by : ℕ) (command : Command A) (reply : Reply A) → by ≢ number
      → own number (event_by by command reply ∷ []) ≡ []
  own-other number by command reply other = rw (nat_eq-other by number other)

  -- the rest of a history has no event of a seat where its prefix has as many
  pub own-rest : (number : ℕ) (xs rest ys : List (Event A)) → xs ++ rest ≡ ys
      → length (own number ys) ≤ length (own number xs) → own number rest ≡ []
  own-rest number xs rest ys is few =
      let both : own number ys ≡ own number xs ++ own number rest =
      ap (own number) (sym is) ∙ own-append number xs rest in
      nil_from_length (own number rest)
      (omega (arith, ap length both, length-append (own number xs) (own number rest)))

  pub own-same : (number : ℕ) (xs ys : List (Event A)) → IsPrefix xs ys
      → length (own number ys) ≤ length (own number xs) → own number ys ≡ own number xs
  own-same number xs ys begins few =
      ap (own number) (sym begins.1) ∙ own-append number xs begins.0
      ∙ ap (λ l. own number xs ++ l) (own-rest number xs begins.0 ys begins.1 few)
      ∙ append-nil (own number xs)

  pub own-fewer : (number : ℕ) (xs ys : List (Event A)) → IsPrefix xs ys
      → length (own number xs) ≤ length (own number ys)
  own-fewer number xs ys begins =
      omega (
        arith,
        ap (λ l. length (own number l)) begins.1,
        ap length (own-append number xs begins.0),
        length-append (own number xs) (own number begins.0),
      )

  -- a list that ends before a seat's last call has fewer of its events
  ends-before : (number : ℕ) (answered list : List (Event A)) → IsAnswered number answered
      → IsPrefix list answered → length list < length answered
      → length (own number list) < length (own number answered)
  ends-before number answered list (inl none) begins less = absurd (omega (arith, ap length none, less))
  ends-before number answered list (inr ends) begins less =
      let e = event_by number ends.command ends.reply in
      let long : length answered ≡ length ends.before + 1 =
      ap length ends.is ∙ length-append ends.before (e ∷ []) in
      let within : IsPrefix list ends.before =
      prefix-shorter list ends.before
      (prefix-either list ends.before answered begins (e ∷ [], sym ends.is)) (omega (arith, long, less)) in
      let one : length (own number answered) ≡ length (own number ends.before) + 1 =
      ap (λ l. length (own number l)) ends.is ∙ ap length (own-append number ends.before (e ∷ []))
      ∙ ap (λ l. length (own number ends.before ++ l)) (own-one number ends.command ends.reply)
      ∙ length-append (own number ends.before) (e ∷ []) in
      omega (arith, one, own-fewer number list ends.before within)

  swapped : (xs ys : List (Event A)) → IsPrefix xs ys ⊎ IsPrefix ys xs → IsPrefix ys xs ⊎ IsPrefix xs ys
  swapped xs ys (inl p) = inr p
  swapped xs ys (inr p) = inl p

  -- a list with as many of a seat's events as it has made calls begins with what was seen after the last call
  pub answered-in : (number : ℕ) (answered list : List (Event A)) → IsAnswered number answered
      → IsPrefix answered list ⊎ IsPrefix list answered
      → length (own number list) ≡ length (own number answered) → IsPrefix answered list
  answered-in number answered list ends either same =
      elim (nat_le (length answered) (length list))
      as (λ b. nat_le (length answered) (length list) ≡ b → IsPrefix answered list) [
        | true ↦ λ is. prefix-shorter answered list either (grind (arith, nat_tests))
        | false ↦ λ is.
            let less : length list < length answered = grind (arith, nat_tests) in
            let begins = prefix-shorter list answered (swapped answered list either) (omega (arith, less)) in
            absurd (omega (arith, same, ends-before number answered list ends begins less))
      ] refl
