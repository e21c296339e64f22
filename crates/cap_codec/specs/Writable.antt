-- The lists that can be written, and what they are read as.
use Rattle.std.specs.Prelude.{ℕ, Bool, true, false, List, [], ◌∷◌, IsTrue, IsUtf8, All, filter}
use Rattle.cap_value.specs.Bytes.{is_name}
use Rattle.cap_row.specs.Schema.{is_schema, has_key}
use Rattle.cap_changes.specs.HasValues.{HasValues, PatchHasValues}
use Rattle.cap_changes.specs.Group.{TableChanges}
use Rattle.cap_changes.specs.PatchGroup.{TablePatches}
use Rattle.cap_changes.specs.Entries.{AllFit, TableEntries}
use Rattle.cap_changes.specs.Fits.{change_fits, patch_fits}
use Rattle.cap_codec.specs.declared.key_flags.KeyFlags.{KeyFlags}
use Rattle.cap_codec.specs.declared.key_flags.KeyFlags.TheVariants.{Ones}
use Rattle.cap_codec.specs.declared.read.Contents.{Contents}
use Rattle.cap_codec.specs.declared.read.Contents.TheVariants.{Changes, Patches}
use Rattle.cap_codec.specs.Changeset.{list_bytes_with}
use Rattle.cap_codec.specs.Patchset.{patch_list_bytes_with}

-- a table's name and its columns, of which at least one is in the key
pub record IsTable (table : List ℕ) (schema : List Bool) : Type 0 where
  pub name : IsTrue (is_name table)
  pub utf8 : IsUtf8 table
  pub columns : IsTrue (is_schema schema)
  pub keyed : IsTrue (has_key schema)

abbrev pub has_some : {X : Type 0} → List X → Bool
has_some [] = false
has_some (x ∷ xs) = true

-- a group that a list may hold: its changes fit and have values
pub record IsGroupOf {X : Type 0} (fits : List Bool → X → Bool) (has_values : X → Type 0)
    (group : TableEntries X) : Type 0 where
  pub table : IsTable group.table group.schema
  pub fit : AllFit fits group.schema group.changes
  pub values : All has_values group.changes

module _ {A : Type 0} where
  abbrev pub IsGroup : TableChanges A → Type 0
  IsGroup group = IsGroupOf change_fits HasValues group

  abbrev pub IsPatchGroup : TablePatches A → Type 0
  IsPatchGroup group = IsGroupOf patch_fits PatchHasValues group

  abbrev pub IsWritable : Contents A → Type 0
  IsWritable (Changes groups) = All IsGroup groups
  IsWritable (Patches groups) = All IsPatchGroup groups

  abbrev pub blob_bytes_with : KeyFlags → Contents A → List ℕ
  blob_bytes_with key_flags (Changes groups) = list_bytes_with key_flags groups
  blob_bytes_with key_flags (Patches groups) = patch_list_bytes_with key_flags groups

  abbrev pub blob_bytes : Contents A → List ℕ
  blob_bytes blob = blob_bytes_with Ones blob

  -- a patchset without groups has no bytes, as a changeset without groups
  abbrev pub of_patches : List (TablePatches A) → Contents A
  of_patches [] = Changes []
  of_patches (first ∷ others) = Patches (first ∷ others)

  -- without the empty groups
  abbrev pub with_some : Contents A → Contents A
  with_some (Changes groups) = Changes (filter (λ group. has_some group.changes) groups)
  with_some (Patches groups) = of_patches (filter (λ group. has_some group.changes) groups)

  -- there is no empty group
  abbrev pub HasNoEmptyGroup : Contents A → Type 0
  HasNoEmptyGroup (Changes groups) = All (λ group. IsTrue (has_some group.changes)) groups
  HasNoEmptyGroup (Patches groups) =
      IsTrue (has_some groups) × All (λ group. IsTrue (has_some group.changes)) groups
