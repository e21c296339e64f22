-- What was read is spelled by the bytes that were read: changes.
use Rattle.std.proofs.Common.{◌≡◌, ℕ, Bool, true, List, [], ◌∷◌, ◌++◌, Result, Ok, refl, sym, ap, subst, ◌∙◌, append_assoc, suc, inl, inr}
use Rattle.cap_field.specs.declared.fault.BlobFault.{BlobFault}
use Rattle.cap_field.specs.Reading.{◌>>=◌}
use Rattle.cap_field.proofs.Binds.{bind_ok, ok_is, chosen}
use Rattle.cap_field.proofs.Spelled.{AreLow, low_behind}
use Rattle.cap_changes.specs.ChangeReading.{change_at, patch_at, changes_at}
use Rattle.cap_changes.specs.Operation.{is_operation}
use Rattle.cap_changes.specs.Spelling.{SpellsEach, SpellsChange, SpellsPatch}
use Rattle.cap_changes.specs.declared.row_change.RowChange.{RowChange}
use Rattle.cap_changes.specs.declared.patch.Patch.{Patch}
pub use Rattle.cap_changes.proofs.Grammar.{Begins}
use Rattle.cap_changes.proofs.Grammar.{is_spelled, changes, patches}

-- ---- changes

module _ {A : Type 0} where
  pub change_spelled : (total : ℕ) (flags : List Bool) (op : ℕ) (bytes : List ℕ) (x : RowChange A × List ℕ) → AreLow bytes → is_operation op ≡ true → change_at total flags op bytes ≡ Ok x → Begins (SpellsChange flags) op bytes x
  change_spelled total flags op bytes x low operation e = is_spelled changes total flags op bytes x low operation e

  pub patch_spelled : (total : ℕ) (flags : List Bool) (op : ℕ) (bytes : List ℕ) (x : Patch A × List ℕ) → AreLow bytes → is_operation op ≡ true → patch_at total flags op bytes ≡ Ok x → Begins (SpellsPatch flags) op bytes x
  patch_spelled total flags op bytes x low operation e = is_spelled patches total flags op bytes x low operation e

-- ---- the changes of a group

module _ {X : Type 0} (one_at : ℕ → List Bool → ℕ → List ℕ → Result (X × List ℕ) BlobFault) (total : ℕ) (flags : List Bool) (one : X → List ℕ → Type 0) where
  abbrev IsSpelled : Type 0
  IsSpelled = (op : ℕ) (bytes : List ℕ) (x : X × List ℕ) → AreLow bytes → is_operation op ≡ true → one_at total flags op bytes ≡ Ok x → Begins one op bytes x

  abbrev pub Front : List ℕ → List X × List ℕ → Type 0
  Front bytes x = (front : List ℕ) × (bytes ≡ front ++ x.1) × SpellsEach one x.0 front

  pub each_spelled : IsSpelled → (most : ℕ) (bytes : List ℕ) (x : List X × List ℕ) → AreLow bytes → changes_at one_at most total flags bytes ≡ Ok x → Front bytes x
  unfolding changes_at
  each_spelled spelled (suc most) (op ∷ bytes) x low e = elim (chosen (is_operation op) _ _ _ e) [
    | inl (operation, h) ↦
        let first = bind_ok (one_at total flags op bytes) (λ change. changes_at one_at most total flags change.1 >>= (λ others. Ok (change.0 ∷ others.0, others.1))) x h in
        let others = bind_ok (changes_at one_at most total flags first.0.1) (λ others. Ok (first.0.0 ∷ others.0, others.1)) x first.2 in
        let is = spelled op bytes first.0 low.1 operation first.1 in
        let are = each_spelled spelled most first.0.1 others.0 (low_behind bytes is.0 first.0.1 is.1 low.1) others.1 in
        subst (Front (op ∷ bytes)) (ok_is (first.0.0 ∷ others.0.0, others.0.1) x others.2) (
          (op ∷ is.0) ++ are.0,
          ap (λ (b : List ℕ). op ∷ b) (is.1 ∙ ap (λ (b : List ℕ). is.0 ++ b) are.1 ∙ sym (append_assoc is.0 are.0 others.0.1)),
          (op ∷ is.0, are.0, refl, is.2, are.2),
        )
    | inr (other, h) ↦ subst (Front (op ∷ bytes)) (ok_is ([], op ∷ bytes) x h) ([], refl, refl)
  ]
  each_spelled spelled most bytes x low e = subst (Front bytes) (ok_is ([], bytes) x e) ([], refl, refl)
