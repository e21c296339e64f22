-- The inverse and the patchset of a changeset, from bytes to bytes.
use Rattle.std.specs.Prelude.{ℕ, List, Result, Ok, Err}
use Rattle.cap_changes.specs.Group.{TableChanges}
use Rattle.cap_changes.specs.Invert.{inverse_list_of}
use Rattle.cap_changes.specs.Patch.{patch_list_of}
use Rattle.cap_codec.specs.BlobReading.{blob_at}
use Rattle.cap_codec.specs.Changeset.{list_bytes_with}
use Rattle.cap_codec.specs.Patchset.{patch_list_bytes_with}
use Rattle.cap_field.specs.declared.fault.BlobFault.{BlobFault}
use Rattle.cap_codec.specs.declared.key_flags.KeyFlags.{KeyFlags}
use Rattle.cap_codec.specs.declared.read.Contents.{Contents}
use Rattle.cap_codec.specs.declared.read.Contents.TheVariants.{Changes, Patches}
use Rattle.cap_blob.specs.Target.{converted_list}
use Rattle.cap_blob.specs.declared.target.Target.{Target}
use Rattle.cap_blob.specs.declared.refusal.ChangesetRefusal.{ChangesetRefusal}
use Rattle.cap_blob.specs.declared.refusal.ChangesetRefusal.TheVariants.{Malformed, Patchset}

module _ (A : Type 0) where
  -- the list of a changeset that was read
  abbrev pub changes_in : Result (Contents A) BlobFault → Result (List (TableChanges A)) ChangesetRefusal
  changes_in (Ok (Changes list)) = Ok list
  changes_in (Ok (Patches list)) = Err Patchset
  changes_in (Err fault) = Err (Malformed fault)

  abbrev pub changes_at : List ℕ → Result (List (TableChanges A)) ChangesetRefusal
  changes_at bytes = changes_in (blob_at bytes)

  abbrev pub written : (List (TableChanges A) → List ℕ) → Result (List (TableChanges A)) ChangesetRefusal →
      Result (List ℕ) ChangesetRefusal
  written bytes (Ok list) = Ok (bytes list)
  written bytes (Err why) = Err why

  -- the bytes that the changeset with these bytes is converted to
  abbrev pub target_at : Target → KeyFlags → List ℕ → Result (List ℕ) ChangesetRefusal
  target_at target key_flags bytes = written (converted_list key_flags target) (changes_at bytes)

  -- the bytes of the inverse of the changeset that these are
  abbrev pub inverse_at : KeyFlags → List ℕ → Result (List ℕ) ChangesetRefusal
  inverse_at key_flags bytes =
      written (λ list. list_bytes_with key_flags (inverse_list_of list)) (changes_at bytes)

  -- the bytes of its patchset
  abbrev pub patchset_at : KeyFlags → List ℕ → Result (List ℕ) ChangesetRefusal
  patchset_at key_flags bytes =
      written (λ list. patch_list_bytes_with key_flags (patch_list_of list)) (changes_at bytes)
