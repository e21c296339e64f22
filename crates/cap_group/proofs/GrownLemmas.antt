-- Groups to which changes were added, and how they go back.
use Rattle.std.proofs.Common.{◌≡◌, ℕ, zero, suc, ◌<◌, ◌≤◌, List, [], ◌∷◌, ◌++◌, Option, length, take, get_or, set, refl, ap, arith}
use Rattle.std.proofs.lemmas.List.{length-take, take-append-le, take_all}
use Rattle.std.proofs.Math.Seq.{take-append_seam}
use Rattle.cap_changes.specs.Entries.{TableEntries}
use Rattle.cap_group.specs.Grown.{IsGrown, before, cut_at, taken_back}

module _ {X : Type 0} where
  -- one more change was pushed
  pub grown_more : (old new : TableEntries X) (x : X) → IsGrown old new → IsGrown old (record new { changes = new.changes ++ x ∷ [] })
  grown_more old new x grown =
      let long : length old.changes ≤ length new.changes = omega (arith, simp length-take at (ap (λ (t : TableEntries X). length t.changes) grown)) in
      rw (take-append-le (length old.changes) new.changes (x ∷ []) long) grown

  -- ---- the last step is taken back first

  pub before_last : (steps : List (ℕ × Option ℕ)) (step : ℕ × Option ℕ) (gs : List (TableEntries X)) → before (steps ++ step ∷ []) gs ≡ before steps (taken_back step gs)
  before_last [] step gs = refl
  before_last (s ∷ steps) step gs = ap (taken_back s) (before_last steps step gs)

  -- changes were added to a table
  pub cut_set : (gs : List (TableEntries X)) (i : ℕ) (g d : TableEntries X) → i < length gs → IsGrown (get_or gs i d) g → cut_at i (length (get_or gs i d).changes) (set gs i g) ≡ gs
  cut_set [] i g d within grown = refl
  cut_set (f ∷ gs) zero g d within grown = ap (λ t. t ∷ gs) grown
  cut_set (f ∷ gs) (suc i) g d within grown = ap (λ l. f ∷ l) (cut_set gs i g d (omega arith) grown)

  -- a table is as it was, or is not there any more
  pub cut_is : (gs : List (TableEntries X)) (i n : ℕ) (d : TableEntries X) → i < length gs → set gs i (record { table = (get_or gs i d).table; schema = (get_or gs i d).schema; changes = take n (get_or gs i d).changes }) ≡ cut_at i n gs
  cut_is [] i n d within = refl
  cut_is (g ∷ gs) zero n d within = refl
  cut_is (g ∷ gs) (suc i) n d within = ap (λ l. g ∷ l) (cut_is gs i n d (omega arith))

  pub cut_none : (gs : List (TableEntries X)) (i n : ℕ) → length gs ≤ i → cut_at i n gs ≡ gs
  cut_none [] i n beyond = refl
  cut_none (g ∷ gs) zero n beyond = absurd (omega arith)
  cut_none (g ∷ gs) (suc i) n beyond = ap (λ l. g ∷ l) (cut_none gs i n (omega arith))

pub ruleset going_back = (before_last, cut_is, cut_none, take-append_seam, take_all)
