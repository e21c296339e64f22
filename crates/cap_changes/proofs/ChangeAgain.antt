-- Changes are read as what their bytes spell, whatever follows them that is no change.
use Rattle.std.proofs.Common.{◌≡◌, ℕ, Bool, true, false, List, [], ◌∷◌, ◌++◌, Result, Ok, refl, ap, ◌∙◌, append_assoc, zero, suc, ◌≤◌, length, arith, length-append}
use Rattle.cap_field.specs.declared.fault.BlobFault.{BlobFault}
use Rattle.cap_changes.specs.ChangeReading.{change_at, patch_at, changes_at}
use Rattle.cap_changes.specs.Operation.{is_operation}
use Rattle.cap_changes.specs.Spelling.{SpellsEach, SpellsChange, SpellsPatch}
use Rattle.cap_changes.specs.declared.row_change.RowChange.{RowChange}
use Rattle.cap_changes.specs.declared.patch.Patch.{Patch}
use Rattle.cap_changes.proofs.Grammar.{again, changes, patches}

-- ---- changes

module _ {A : Type 0} where
  pub change_again : (total : ℕ) (flags : List Bool) (change : RowChange A) (front : List ℕ) → SpellsChange flags change front
      → (op : ℕ) × (behind : List ℕ) × (front ≡ op ∷ behind) × (is_operation op ≡ true) × ((rest : List ℕ) → change_at total flags op (behind ++ rest) ≡ Ok (change, rest))
  change_again total flags change front spelled = again changes total flags change front spelled

  pub patch_again : (total : ℕ) (flags : List Bool) (patch : Patch A) (front : List ℕ) → SpellsPatch flags patch front
      → (op : ℕ) × (behind : List ℕ) × (front ≡ op ∷ behind) × (is_operation op ≡ true) × ((rest : List ℕ) → patch_at total flags op (behind ++ rest) ≡ Ok (patch, rest))
  patch_again total flags patch front spelled = again patches total flags patch front spelled

-- ---- the changes of a group

-- bytes with which no change begins
abbrev pub NoChange : List ℕ → Type 0
NoChange [] = Unit {0}
NoChange (byte ∷ bytes) = is_operation byte ≡ false

module _ {X : Type 0} (one_at : ℕ → List Bool → ℕ → List ℕ → Result (X × List ℕ) BlobFault) (total : ℕ) (flags : List Bool) (one : X → List ℕ → Type 0) where
  -- what spells one is read as that one, whatever follows
  abbrev pub IsRead : Type 0
  IsRead = (x : X) (front : List ℕ) → one x front → (op : ℕ) × (behind : List ℕ) × (front ≡ op ∷ behind) × (is_operation op ≡ true) × ((rest : List ℕ) → one_at total flags op (behind ++ rest) ≡ Ok (x, rest))

  none_again : (most : ℕ) (rest : List ℕ) → NoChange rest → changes_at one_at most total flags rest ≡ Ok ([], rest)
  unfolding changes_at
  none_again (suc most) (byte ∷ rest) stops = rw stops refl
  none_again most rest stops = refl

  regrouped : (bytes front others rest behind : List ℕ) (op : ℕ) → bytes ≡ front ++ others → front ≡ op ∷ behind → bytes ++ rest ≡ op ∷ (behind ++ (others ++ rest))
  regrouped bytes front others rest behind op parts first = ap (λ (b : List ℕ). b ++ rest) (parts ∙ ap (λ (b : List ℕ). b ++ others) first) ∙ append_assoc (op ∷ behind) others rest

  pub each_again : IsRead → (most : ℕ) (xs : List X) (bytes rest : List ℕ) → length (bytes ++ rest) ≤ most → SpellsEach one xs bytes → NoChange rest
      → changes_at one_at most total flags (bytes ++ rest) ≡ Ok (xs, rest)
  unfolding changes_at
  each_again read most [] bytes rest le none stops = ap (λ (b : List ℕ). changes_at one_at most total flags (b ++ rest)) none ∙ none_again most rest stops
  each_again read zero (x ∷ xs) bytes rest le (front, others, parts, is, spelled) stops =
      let (op, behind, first, operation, again) = read x front is in
      absurd (omega (arith, le, ap length (regrouped bytes front others rest behind op parts first)))
  each_again read (suc most) (x ∷ xs) bytes rest le (front, others, parts, is, spelled) stops =
      let (op, behind, first, operation, again) = read x front is in
      let same : bytes ++ rest ≡ op ∷ (behind ++ (others ++ rest)) = regrouped bytes front others rest behind op parts first in
      let later = each_again read most xs others rest (omega (arith, le, ap length same, length-append behind (others ++ rest))) spelled stops in
      rw (same, operation, again (others ++ rest), later) refl
