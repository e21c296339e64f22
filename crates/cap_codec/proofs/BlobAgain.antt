-- Groups and blobs are read as what their bytes spell.
use Rattle.cap_codec.proofs.Common.{◌≡◌, ℕ, zero, suc, ◌≤◌, ◌⊎◌, inl, inr, Bool, false, nat_le, List, [], ◌∷◌, ◌++◌, length, map, Result, Ok, refl, ap, ◌∙◌, append_assoc, arith, length-append, nat_tests, and_parts, eq-eqb, length-map, is_utf8-from_IsUtf8, BlobFault, Contents, Changes, Patches, count_at, flags_at, header_at, is_set, change_at, patch_at, varint_bytes, is_operation, TableEntries, entries_at, groups_at, blob_at, SpellsEach, SpellsChange, SpellsPatch, SpellsGroup, Spells, IsTable, varint_again, bytes_again}
use Rattle.cap_codec.proofs.HeaderLemmas.{name_is, key_is_set}
use Rattle.cap_changes.proofs.ChangeAgain as change_read
use Rattle.cap_changes.proofs.ChangeAgain.{NoChange, change_again, patch_again, each_again}

-- ---- headers

-- a header behind its kind byte, and more
pub header_again : (total : ℕ) (table : List ℕ) (schema : List Bool) (flags rest : List ℕ) → IsTable table schema → map is_set flags ≡ schema
    → header_at total (varint_bytes (length schema) ++ flags ++ table ++ 0 ∷ rest) ≡ Ok (record { table = table; flags = schema }, rest)
unfolding count_at flags_at header_at
header_again total table schema flags rest is flagged =
    let columns = and_parts (nat_le 1 (length schema)) (nat_le (length schema) 2000) is.columns in
    let count = varint_again total (length schema) (flags ++ (table ++ 0 ∷ rest)) in
    let read = bytes_again total (length schema) flags (table ++ 0 ∷ rest) in
    let long = length-map flags is_set in
    let set = key_is_set flags in
    let keyed = is.keyed in
    let named = name_is total table rest in
    let text = is_utf8-from_IsUtf8 table is.utf8 in
    let name = is.name in
    grind (arith, nat_tests, append_assoc, columns, count, long, set, read, keyed, named, text, name)

-- ---- groups

-- these bytes spell the group
abbrev pub SpelledAs : {X : Type 0} → ℕ → (List Bool → X → List ℕ → Type 0) → TableEntries X → List ℕ → Type 0
SpelledAs kind one group front = SpellsGroup kind group.table group.schema (one group.schema) group.changes front

module _ {X : Type 0} (one_at : ℕ → List Bool → ℕ → List ℕ → Result (X × List ℕ) BlobFault) (kind : ℕ) (one : List Bool → X → List ℕ → Type 0) (read : (total : ℕ) (flags : List Bool) → change_read.IsRead one_at total flags (one flags)) where
  -- behind its kind byte, where no change follows
  group_again : (total : ℕ) (group : TableEntries X) (front rest : List ℕ) (is : SpelledAs kind one group front) → NoChange rest → entries_at one_at total ((varint_bytes (length group.schema) ++ is.flags ++ group.table ++ 0 ∷ is.rest) ++ rest) ≡ Ok (group, rest)
  group_again total group front rest is stops =
      let head = header_again total group.table group.schema is.flags (is.rest ++ rest) is.named is.flagged in
      let each = each_again one_at total group.schema (one group.schema) (read total group.schema) (length (is.rest ++ rest)) group.changes is.rest rest (omega arith) is.each stops in
      grind (arith, append_assoc, head, each)

  -- no bytes, or the kind first
  begins : (groups : List (TableEntries X)) (bytes : List ℕ) → SpellsEach (SpelledAs kind one) groups bytes → ((bytes ≡ []) × (groups ≡ [])) ⊎ ((others : List ℕ) × (bytes ≡ kind ∷ others))
  begins [] bytes none = inl (none, refl)
  begins (group ∷ groups) bytes (front, rest, parts, is, spelled) =
      inr ((varint_bytes (length group.schema) ++ is.flags ++ group.table ++ 0 ∷ is.rest) ++ rest, parts ∙ ap (λ (b : List ℕ). b ++ rest) is.parts)

  groups_again : is_operation kind ≡ false → (most total : ℕ) (groups : List (TableEntries X)) (bytes : List ℕ) → length bytes ≤ most → SpellsEach (SpelledAs kind one) groups bytes → groups_at (entries_at one_at) kind most total bytes ≡ Ok groups
  unfolding groups_at
  groups_again other zero total [] bytes le none = refl
  groups_again other (suc most) total [] bytes le none = rw none refl
  groups_again other zero total (group ∷ groups) bytes le (front, rest, parts, is, spelled) = absurd (omega (arith, ap length parts, ap length is.parts, length-append front rest))
  groups_again other (suc most) total (group ∷ groups) bytes le (front, rest, parts, is, spelled) =
      let behind = varint_bytes (length group.schema) ++ is.flags ++ group.table ++ 0 ∷ is.rest in
      let same : bytes ≡ kind ∷ (behind ++ rest) = parts ∙ ap (λ (b : List ℕ). b ++ rest) is.parts in
      let next = begins groups rest spelled in
      let first = group_again total group front rest is (grind (arith, other, next)) in
      let others : groups_at (entries_at one_at) kind most total rest ≡ Ok groups = groups_again other most total groups rest (omega (arith, ap length same, length-append behind rest)) spelled in
      rw (same, eq-eqb kind kind refl, first, others) refl

-- ---- blobs

module _ {A : Type 0} where
  -- Bytes that spell a blob are read as that blob.
  pub blob_again : (blob : Contents A) (bytes : List ℕ) → Spells blob bytes → blob_at bytes ≡ Ok blob
  unfolding blob_at
  blob_again (Changes groups) bytes spelled = elim (begins change_at 0x54 SpellsChange change_again groups bytes spelled) [
    | inl (none, nothing) ↦ rw (none, nothing) refl
    | inr (others, is) ↦ let read = rw is at (groups_again change_at 0x54 SpellsChange change_again refl (length bytes) (length bytes) groups bytes (omega arith) spelled) in rw (is, read) refl
  ]
  blob_again (Patches groups) bytes (spelled, some) = elim (begins patch_at 0x50 SpellsPatch patch_again groups bytes spelled) [
    | inl (none, nothing) ↦ absurd (some nothing)
    | inr (others, is) ↦ let read = rw is at (groups_again patch_at 0x50 SpellsPatch patch_again refl (length bytes) (length bytes) groups bytes (omega arith) spelled) in rw (is, read) refl
  ]
