-- Both steps on the front word keep its rule.
use Rattle.std.proofs.Common.{◌≡◌, ℕ, ◌+◌, ◌<◌, ◌^◌, ◌==◌, Bool, true, false, List, [], ◌∷◌, ◌++◌, length, refl, ap, sym, subst, ◌∙◌, arith, inl, length-append, None}
use Rattle.std.proofs.lemmas.List.{append-nil}
use Rattle.std.proofs.lemmas.Bool.Decides.{nat_tests}
use mathlib.Core.List.{IsPrefix}
use prog.Atomic.{either}
use Rattle.logbook.specs.Pages.{Cell, cell, keeps, no_nib, step, Moves, Goes}
use Rattle.cap_core.specs.declared.command.Command.{Command}
use Rattle.cap_core.specs.declared.event.Event.{Event}
use Rattle.cap_core.specs.declared.reply.Reply.{Reply}
use Rattle.cap_core.specs.Answer.{IsLegal, event_by, reply_of}
use Rattle.cap_core.specs.Table.{BlobFits, BlobsFit}
use Rattle.cap_history.specs.History.{IsHistory}
use Rattle.cap_history.specs.Rules.{IsKept, Adds}
use Rattle.cap_history.specs.Beginnings.{prefix-whole, prefix-trans}

-- a legal history stays legal with one more command and its reply
abbrev pub Grows : Type 0 → Type 0
Grows A = (h : List (Event A)) (by : ℕ) (command : Command A) → IsLegal h → IsLegal (h ++ event_by by command (reply_of h command) ∷ [])

-- the blobs of a history fit with one more command whose blob fits
abbrev pub FitsMore : Type 0 → Type 0
FitsMore A = (h : List (Event A)) (by : ℕ) (command : Command A) (reply : Reply A) → BlobsFit h → BlobFits command → BlobsFit (h ++ event_by by command reply ∷ [])

module _ {A : Type 0} where
  -- what clients see of the history, and how a step moves it: nothing
  abbrev pub shown : List (Event A) → List (Event A)
  shown log = []

  abbrev pub moved : List (Event A) → List (Event A) → ℕ → Type 0
  moved xs ys n = Unit {0}

  pub adds_goes : (log v at : List (Event A)) (by : ℕ) (command : Command A) (reply : Reply A) (old : ℕ) → Grows A → FitsMore A → BlobFits command
      → length at ≡ old → old + 1 < 2 ^ 63 → reply ≡ reply_of at command → IsPrefix at v → IsHistory log → IsPrefix v log
      → (b : Bool) → (length log == old) ≡ b
      → Goes IsKept shown moved 0 (v, (no_nib, None)) (λ n. either (n == old) (old + 1) n) (Adds (step 0 old (old + 1) (event_by by command reply)) (v, (no_nib, None))) ((length log, true) ∷ (0, true) ∷ []) log
  adds_goes log v at by command reply old grows more fits len room replied begins history pre true is =
      let e = event_by by command reply in
      let here : length log ≡ old = grind (arith, nat_tests) in
      let whole : at ≡ log = prefix-whole at log (prefix-trans at v log begins pre) (omega arith) in
      let same : v ≡ log = prefix-whole v log pre (omega (arith, ap length whole, ap length begins.1, length-append at begins.0)) in
      let right : reply ≡ reply_of log command = replied ∙ ap (λ (h : List (Event A)). reply_of h command) whole in
      let legal : IsLegal (log ++ e ∷ []) = subst (λ (r : Reply A). IsLegal (log ++ event_by by command r ∷ [])) (sym right) (grows log by command history.legal) in
      let few : length (log ++ e ∷ []) < 2 ^ 63 = omega (arith, length-append log (e ∷ [])) in
      let next : IsHistory (log ++ e ∷ []) = record { legal = legal; few = few; blobs = more log by command reply history.blobs fits } in
      let n : either (length log == old) (old + 1) (length log) ≡ length (log ++ e ∷ []) = rw is (omega (arith, length-append log (e ∷ []))) in
      let long : length v ≡ old = ap length same ∙ here in (
        keeps,
        e ∷ [],
        None,
        tt,
        record { words = ap (λ (k : ℕ). (k, true) ∷ (0, true) ∷ []) n; history = next },
        inl (refl, refl),
        rw is (long, ap (λ w. w ++ e ∷ []) (sym same), next),
      )
  adds_goes log v at by command reply old grows more fits len room replied begins history pre false is =
      let all : log ++ [] ≡ log = append-nil log in
      let next : IsHistory (log ++ []) = subst IsHistory (sym all) history in
      let n : either (length log == old) (old + 1) (length log) ≡ length (log ++ []) = rw is (ap length (sym all)) in (
        keeps,
        [],
        None,
        tt,
        record { words = ap (λ (k : ℕ). (k, true) ∷ (0, true) ∷ []) n; history = next },
        inl (refl, refl),
        rw is (ap length all, next),
      )

  -- whatever the history is, the exchange adds the call to all that was seen, or finds another length
  pub adds_moves : (v at : List (Event A)) (by : ℕ) (command : Command A) (reply : Reply A) (old : ℕ) → Grows A → FitsMore A → BlobFits command
      → length at ≡ old → old + 1 < 2 ^ 63 → reply ≡ reply_of at command → IsPrefix at v
      → Moves IsKept shown moved 0 (v, (no_nib, None)) (λ n. either (n == old) (old + 1) n) (Adds (step 0 old (old + 1) (event_by by command reply)) (v, (no_nib, None)))
  adds_moves v at by command reply old grows more fits len room replied begins cs log kept pre away =
      let P : List Cell → Type 0 =
      λ c. (0 < length c) × ((cell c 0).1 ≡ true) × Goes IsKept shown moved 0 (v, (no_nib, None)) (λ n. either (n == old) (old + 1) n) (Adds (step 0 old (old + 1) (event_by by command reply)) (v, (no_nib, None))) c log in
      subst P (sym kept.words) (omega arith, refl, adds_goes log v at by command reply old grows more fits len room replied begins kept.history pre (length log == old) refl)
