-- Buffers and changesets as bytes.
use Rattle.std.specs.Prelude.{ℕ, List, [], Result, Ok, Err}
use Rattle.std.specs.Result.{result_map_both}
use Rattle.cap_changes.specs.Group.{TableChanges}
use Rattle.cap_codec.specs.BlobReading.{blob_at}
use Rattle.cap_codec.specs.Changeset.{list_bytes_with}
use Rattle.cap_field.specs.declared.fault.BlobFault.{BlobFault}
use Rattle.cap_codec.specs.declared.key_flags.KeyFlags.{KeyFlags}
use Rattle.cap_codec.specs.declared.read.Contents.{Contents}
use Rattle.cap_codec.specs.declared.read.Contents.TheVariants.{Changes, Patches}
use Rattle.cap_apply.specs.declared.conflict.Conflict.{Conflict}
use Rattle.cap_group.specs.ChangeGroup.{and_then}
use Rattle.cap_rebase.specs.Buffer.{buffer_of}
use Rattle.cap_rebase.specs.Rebaser.{Buffers, configured, rebase}
use Rattle.cap_rebase.specs.declared.refusal.BlobRefusal.{BlobRefusal}
use Rattle.cap_rebase.specs.declared.refusal.BlobRefusal.TheVariants.{Malformed, Patchset, Columns}
use Rattle.cap_rebase.specs.declared.refusal.NumberedRefusal.{NumberedRefusal}

module _ {A : Type 0} where
  -- the list of a changeset that was read
  abbrev pub changes_in : Result (Contents A) BlobFault → Result (List (TableChanges A)) BlobRefusal
  changes_in (Ok (Changes list)) = Ok list
  changes_in (Ok (Patches list)) = Err Patchset
  changes_in (Err fault) = Err (Malformed fault)

-- the changeset with these bytes
abbrev pub changes_at : (A : Type 0) → List ℕ → Result (List (TableChanges A)) BlobRefusal
changes_at A bytes = changes_in (blob_at {A = A} bytes)

module _ {A : Type 0} where
  -- the rebaser with the buffer of these bytes
  abbrev pub configured_at : Buffers A → List ℕ → Result (Buffers A) BlobRefusal
  configured_at buffers bytes = and_then (changes_at A bytes)
      (λ buffer. result_map_both (λ more. more) Columns (configured buffers buffer))

  -- the bytes of the changeset with these bytes, over the buffers
  abbrev pub rebased_at : KeyFlags → Buffers A → List ℕ → Result (List ℕ) BlobRefusal
  rebased_at key_flags buffers bytes = and_then (changes_at A bytes)
      (λ list. result_map_both (list_bytes_with key_flags) Columns (rebase buffers list))

-- the refusal is of the bytes with this number
abbrev pub numbered : {X : Type 0} → ℕ → Result X BlobRefusal → Result X NumberedRefusal
numbered blob answer = result_map_both (λ x. x) (λ why. record { blob = blob; why = why }) answer

-- the bytes of the changeset with these bytes, over buffers that are bytes, one behind the other
abbrev pub rebase_at : (A : Type 0) → KeyFlags → List ℕ → List ℕ → Result (List ℕ) NumberedRefusal
rebase_at A key_flags changeset buffers = and_then (numbered 1 (configured_at {A = A} [] buffers))
    (λ made. numbered 0 (rebased_at key_flags made changeset))

-- the bytes of the buffer of an application of the changeset with these bytes
abbrev pub buffer_at : (A : Type 0) → KeyFlags → List ℕ → List Conflict → Result (List ℕ) BlobRefusal
buffer_at A key_flags bytes conflicts = and_then (changes_at A bytes)
    (λ list. Ok (list_bytes_with key_flags (buffer_of list conflicts)))
