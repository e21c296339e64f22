-- The counts of each seat's events, at first and after one more.
use Rattle.std.proofs.Common.{◌≡◌, ◌≢◌, ◌⊎◌, inl, inr, ℕ, ◌+◌, ◌<◌, Bool, true, false, List, [], ◌∷◌, ◌++◌, length, refl, ap, sym, ◌∙◌, arith, length-append, nat_eq, slice_set}
use Rattle.std.proofs.lemmas.List.{append-nil, get_or-set_other, get_or-set_same, length-set}
use Rattle.std.proofs.lemmas.Bool.Decides.{nat_tests}
use Rattle.cap_core.specs.declared.command.Command.{Command}
use Rattle.cap_core.specs.declared.event.Event.{Event}
use Rattle.cap_core.specs.declared.reply.Reply.{Reply}
use Rattle.cap_core.specs.Answer.{event_by}
use Rattle.cap_history.specs.History.{own}
use Rattle.cap_history.specs.Own.{own-append, own-one, own-other}
use Rattle.cap_locked.specs.Counts.{IsCounted}

same_by : (n m : ℕ) (b : Bool) → nat_eq n m ≡ b → (n ≡ m) ⊎ (n ≢ m)
same_by n m true is = inl (grind (arith, nat_tests))
same_by n m false is = inr (grind (arith, nat_tests))

-- two numbers are the same or not
pub same_or_other : (n m : ℕ) → (n ≡ m) ⊎ (n ≢ m)
same_or_other n m = same_by n m (nat_eq n m) refl

module _ {A : Type 0} where
  pub counted-push : (seats number count : ℕ) (counts : List ℕ) (history new : List (Event A)) (command : Command A) (reply : Reply A) → IsCounted seats counts history → number < seats
      → count ≡ length (own number history) → new ≡ history ++ event_by number command reply ∷ [] → IsCounted seats (slice_set counts number (count + 1)) new
  counted-push seats number count counts history new command reply counted known is push =
      let e = event_by number command reply in
      let long : number < length counts = omega (arith, counted.long) in
      let all = λ (n : ℕ). ap (own n) push ∙ own-append n history (e ∷ []) in
      let rest = λ (n : ℕ) (other : number ≢ n). all n ∙ ap (λ l. own n history ++ l) (own-other n number command reply other) ∙ append-nil (own n history) in
      let here : length (own number new) ≡ count + 1 =
      ap length (all number ∙ ap (λ l. own number history ++ l) (own-one number command reply)) ∙ length-append (own number history) (e ∷ []) ∙ ap (λ n. n + 1) (sym is) in
      record {
        some = counted.some;
        long = length-set counts number (count + 1) ∙ counted.long;
        each = λ n within. elim (same_or_other number n) [
          | inl same ↦ rw (sym same) (get_or-set_same counts number (count + 1) 0 long ∙ sym here)
          | inr other ↦ get_or-set_other counts number n (count + 1) 0 (λ same. other (sym same)) ∙ counted.each n within ∙ ap length (sym (rest n other))
        ];
        others = λ n beyond. rest n (λ same. absurd (omega (arith, known, same, beyond))) ∙ counted.others n beyond;
      }
