-- Changegroups of blobs as bytes.
use Rattle.std.specs.Prelude.{ℕ, ◌+◌, List, [], ◌∷◌, Result, Ok}
use Rattle.std.specs.Result.{result_map_both}
use Rattle.cap_codec.specs.BlobReading.{blob_at}
use Rattle.cap_codec.specs.Writable.{blob_bytes_with}
use Rattle.cap_codec.specs.declared.key_flags.KeyFlags.{KeyFlags}
use Rattle.cap_codec.specs.declared.read.Contents.{Contents}
use Rattle.cap_group.specs.ChangeGroup.{GroupContent, added, and_then, contents_of, empty_group}
use Rattle.cap_group.specs.declared.refusal.BlobRefusal.{BlobRefusal}
use Rattle.cap_group.specs.declared.refusal.BlobRefusal.TheVariants.{Malformed, Group}
use Rattle.cap_group.specs.declared.refusal.ConcatRefusal.{ConcatRefusal}

-- the blob with these bytes
abbrev pub contents_at : (A : Type 0) → List ℕ → Result (Contents A) BlobRefusal
contents_at A bytes = result_map_both (λ blob. blob) Malformed (blob_at {A = A} bytes)

module _ {A : Type 0} where
  -- the changegroup after a blob with these bytes
  abbrev pub bytes_added : GroupContent A → List ℕ → Result (GroupContent A) BlobRefusal
  bytes_added group bytes = and_then (contents_at A bytes)
      (λ blob. result_map_both (λ more. more) Group (added group blob))

  -- the same, refused by the number of the blob
  abbrev pub numbered_added : ℕ → GroupContent A → List ℕ → Result (GroupContent A) ConcatRefusal
  numbered_added blob group bytes =
      result_map_both (λ more. more) (λ why. record { blob = blob; why = why }) (bytes_added group bytes)

  -- the changegroup after blobs with these bytes, one after the other, from this number on
  abbrev pub all_bytes_added : ℕ → GroupContent A → List (List ℕ) → Result (GroupContent A) ConcatRefusal
  all_bytes_added blob group [] = Ok group
  all_bytes_added blob group (bytes ∷ blobs) =
      and_then (numbered_added blob group bytes) (λ more. all_bytes_added (blob + 1) more blobs)

-- the bytes of the concatenation of blobs with these bytes
abbrev pub concat_at : (A : Type 0) → KeyFlags → List (List ℕ) → Result (List ℕ) ConcatRefusal
concat_at A key_flags blobs = and_then (all_bytes_added {A = A} 0 empty_group blobs)
    (λ group. Ok (blob_bytes_with key_flags (contents_of group)))
