-- What was written for a blob spells it, and bytes spell one blob.
use Rattle.cap_codec.proofs.Common.{◌≡◌, ℕ, Bool, List, [], ◌∷◌, ◌++◌, length, filter, Ok, IsTrue, refl, ap, ◌∙◌, append_assoc, arith, AllByRecursion, TableChanges, TablePatches, change_bytes, patch_bytes, flags_bytes, header_bytes, entries_bytes, list_bytes, varint_bytes, TableEntries, blob_at, SpellsEach, SpellsChange, SpellsPatch, Spells, IsGroupOf, IsGroup, IsPatchGroup, IsWritable, has_some, blob_bytes, blob_bytes_with, with_some, HasNoEmptyGroup}
use Rattle.std.proofs.Common.{flat_map}
use Rattle.std.proofs.lemmas.List.Elements.{recursion_from_All}
use Rattle.cap_changes.specs.Fits.{change_fits, patch_fits}
use Rattle.cap_codec.specs.declared.key_flags.KeyFlags.{KeyFlags}
use Rattle.cap_codec.specs.declared.key_flags.KeyFlags.TheVariants.{Ones}
use Rattle.cap_codec.specs.declared.read.Contents.{Contents}
use Rattle.cap_codec.specs.declared.read.Contents.TheVariants.{Changes, Patches}
use Rattle.cap_codec.specs.Patchset.{patch_list_bytes}
use Rattle.cap_changes.specs.HasValues.{HasValues, PatchHasValues}
use Rattle.cap_codec.proofs.KeyFlagLemmas.{flags_set}
use Rattle.cap_changes.proofs.StoredChange.{change_written, patch_written}
use Rattle.cap_codec.proofs.BlobAgain.{SpelledAs, blob_again}

module _ {X : Type 0} (key_flags : KeyFlags) (kind : ℕ) (bytes : X → List ℕ) (one : List Bool → X → List ℕ → Type 0) (fits : List Bool → X → Bool) (values : X → Type 0)
    (written : (flags : List Bool) (x : X) → IsTrue (fits flags x) → values x → one flags x (bytes x)) where
  each_written : (flags : List Bool) (xs : List X) → AllByRecursion (λ x. IsTrue (fits flags x)) xs → AllByRecursion values xs → SpellsEach (one flags) xs (flat_map bytes xs)
  each_written flags [] fit are = refl
  each_written flags (x ∷ xs) fit are = (bytes x, flat_map bytes xs, refl, written flags x fit.0 are.0, each_written flags xs fit.1 are.1)

  -- a header that was written, and changes behind it
  group_written : (group : TableEntries X) → IsGroupOf fits values group → SpelledAs kind one group (header_bytes key_flags kind group.table group.schema ++ flat_map bytes group.changes)
  group_written group is = record {
    named = is.table;
    flags = flags_bytes key_flags group.schema;
    flagged = flags_set key_flags group.schema;
    rest = flat_map bytes group.changes;
    parts = ap (λ (b : List ℕ). kind ∷ b) (append_assoc (varint_bytes (length group.schema) ++ flags_bytes key_flags group.schema ++ group.table) (0 ∷ []) (flat_map bytes group.changes));
    each = each_written group.schema group.changes (recursion_from_All (λ x. IsTrue (fits group.schema x)) group.changes is.fit) (recursion_from_All values group.changes is.values);
  }

  groups_written : (groups : List (TableEntries X)) → AllByRecursion (IsGroupOf fits values) groups
      → SpellsEach (SpelledAs kind one) (filter (λ group. has_some group.changes) groups) (flat_map (entries_bytes key_flags kind bytes) groups)
  groups_written [] is = refl
  groups_written (group ∷ groups) is = let first = group_written group is.0 in let others = groups_written groups is.1 in grind (arith, first, others)

all_kept : {X : Type 0} (has : X → Bool) (xs : List X) → AllByRecursion (λ x. IsTrue (has x)) xs → filter has xs ≡ xs
all_kept has [] each = refl
all_kept has (x ∷ xs) each = rw (each.0, all_kept has xs each.1) refl

module _ {A : Type 0} where
  -- The bytes of a blob spell it, without the groups that have no change.
  pub written_spelled : (key_flags : KeyFlags) (blob : Contents A) → IsWritable blob → Spells (with_some blob) (blob_bytes_with key_flags blob)
  written_spelled key_flags (Changes groups) writable = groups_written key_flags 0x54 change_bytes SpellsChange change_fits HasValues change_written groups (recursion_from_All IsGroup groups writable)
  written_spelled key_flags (Patches groups) writable =
      let are = groups_written key_flags 0x50 patch_bytes SpellsPatch patch_fits PatchHasValues patch_written groups (recursion_from_All IsPatchGroup groups writable) in grind (arith, are)

  -- What was written for a blob reads as it, without the groups that have no change.
  pub written_again : (key_flags : KeyFlags) (blob : Contents A) → IsWritable blob → blob_at (blob_bytes_with key_flags blob) ≡ Ok (with_some blob)
  written_again key_flags blob writable = blob_again (with_some blob) (blob_bytes_with key_flags blob) (written_spelled key_flags blob writable)

  -- ---- no two blobs without empty groups have the same bytes

  pub whole_again : (blob : Contents A) → IsWritable blob → HasNoEmptyGroup blob → blob_at (blob_bytes blob) ≡ Ok blob
  whole_again (Changes groups) writable whole = written_again Ones (Changes groups) writable ∙ ap (λ (kept : List (TableChanges A)). Ok (Changes kept)) (all_kept (λ group. has_some group.changes) groups (recursion_from_All _ groups whole))
  whole_again (Patches groups) writable whole =
      let kept = all_kept (λ group. has_some group.changes) groups (recursion_from_All _ groups whole.1) in let again = written_again Ones (Patches groups) writable in grind (arith, kept, again, whole.0)

  -- ---- the lists of the types

  pub changes_again : (groups : List (TableChanges A)) → IsWritable (Changes groups) → blob_at (list_bytes groups) ≡ Ok (with_some (Changes groups))
  changes_again groups are = written_again Ones (Changes groups) are

  pub patches_again : (groups : List (TablePatches A)) → IsWritable (Patches groups) → blob_at (patch_list_bytes groups) ≡ Ok (with_some (Patches groups))
  patches_again groups are = written_again Ones (Patches groups) are
