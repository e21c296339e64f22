-- Reading the groups of a blob one after the other, as the loop does: what was read, and what is left.
use Rattle.cap_codec.proofs.Common.{fault, BadHeader, entries_at, change_at, patch_at, eqb-true, if◌then◌else◌, ◌≡◌, ℕ, zero, suc, ◌<◌, ◌≤◌, ◌==◌, List, [], ◌∷◌, ◌++◌, length, get_or, Result, Ok, Err, sym, ap, ◌∙◌, append-nil, arith, BlobFault, ◌>>=◌, place, Changes, Patches, wrong_kind, groups_at, blob_at, behind_of, behind-is}

module _ {X : Type 0} (one_at : ℕ → List ℕ → Result (X × List ℕ) BlobFault) (kind : ℕ) where
  -- `all` is these groups, and those that are read from these bytes, of which at most `most` are left
  unfoldable pub GroupsLeft : List X → ℕ → List ℕ → Result (List X) BlobFault → Type 0
  GroupsLeft front total rest all = (most : ℕ) × (length rest ≤ most) × ((groups_at one_at kind most total rest >>= λ xs. Ok (front ++ xs)) ≡ all)

  pub groups_start : (total : ℕ) (bytes : List ℕ) → GroupsLeft [] total bytes (groups_at one_at kind (length bytes) total bytes)
  unfolding GroupsLeft
  groups_start total bytes = (length bytes, omega arith, grind arith)

  -- by the first byte that is left
  pub groups_next : (front : List X) (total : ℕ) (rest : List ℕ) (all : Result (List X) BlobFault) → 1 ≤ length rest → GroupsLeft front total rest all → (most : ℕ) × (length (behind_of rest) ≤ most)
      × (((if get_or rest 0 0 == kind then one_at total (behind_of rest) >>= (λ group. groups_at one_at kind most total group.1 >>= (λ others. Ok (group.0 ∷ others))) else Err (wrong_kind (get_or rest 0 0) (place total rest))) >>= λ xs. Ok (front ++ xs)) ≡ all)
  unfolding GroupsLeft groups_at
  groups_next front total (byte ∷ behind) all some (suc most, le, e) = rw (behind-is byte behind) (most, omega (arith, le), e)
  groups_next front total rest all some (most, le, e) = absurd (omega (arith, some, le))

  pub groups_stop : (front : List X) (total : ℕ) (rest : List ℕ) (all : Result (List X) BlobFault) → length rest < 1 → GroupsLeft front total rest all → all ≡ Ok front
  unfolding GroupsLeft groups_at
  groups_stop front total [] all none (zero, le, e) = sym e ∙ ap (λ (ys : List X). Ok ys) (append-nil front)
  groups_stop front total [] all none (suc most, le, e) = sym e ∙ ap (λ (ys : List X). Ok ys) (append-nil front)
  groups_stop front total (byte ∷ behind) all none left = absurd (omega arith)

module _ {A : Type 0} where
  -- by its first byte a blob is read as a changeset or as a patchset, or not at all
  pub first_is : (bytes : List ℕ) → 1 ≤ length bytes → blob_at {A = A} bytes ≡ (if get_or bytes 0 0 == 0x54 then groups_at (entries_at change_at) 0x54 (length bytes) (length bytes) bytes >>= (λ groups. Ok (Changes groups))
      else (if get_or bytes 0 0 == 0x50 then groups_at (entries_at patch_at) 0x50 (length bytes) (length bytes) bytes >>= (λ groups. Ok (Patches groups)) else fault BadHeader 0))
  unfolding blob_at
  first_is [] some = absurd (omega arith)
  first_is (byte ∷ bytes) some = grind (arith, eqb-true)
