-- What the blobs in an input make together: their concatenation, or the first of them over the others.
use Rattle.std.specs.Prelude.{ℕ, ◌+◌, List, [], ◌∷◌, Option, Some, None, Result, Ok, Err}
use Rattle.std.specs.Result.{result_map_both}
use Rattle.hex.specs.Hex.{decode_of}
use Rattle.cap_codec.specs.Writable.{blob_bytes_with}
use Rattle.cap_codec.specs.declared.key_flags.KeyFlags.{KeyFlags}
use Rattle.cap_group.specs.Bytes.{bytes_added}
use Rattle.cap_group.specs.ChangeGroup.{GroupContent, and_then, contents_of, empty_group}
use Rattle.cap_group.specs.declared.refusal.BlobRefusal.{BlobRefusal as GroupedRefusal}
use Rattle.cap_group.specs.declared.refusal.BlobRefusal.TheVariants as grouped
use Rattle.cap_rebase.specs.Bytes.{configured_at, rebased_at}
use Rattle.cap_rebase.specs.Rebaser.{Buffers}
use Rattle.cap_rebase.specs.declared.refusal.BlobRefusal.{BlobRefusal as RebasedRefusal}
use Rattle.cap_rebase.specs.declared.refusal.BlobRefusal.TheVariants as rebased
use Rattle.cap_run.specs.declared.conversion.Combination.{Combination}
use Rattle.cap_run.specs.declared.conversion.CombinationKind.{CombinationKind}
use Rattle.cap_run.specs.declared.conversion.CombinationKind.TheVariants.{Concatenation, Rebase}
use Rattle.cap_run.specs.declared.encoding.Encoding.{Encoding}
use Rattle.cap_run.specs.declared.encoding.Encoding.TheVariants.{Binary, Hex}
use Rattle.cap_run.specs.declared.fault.BlobListFault.TheVariants.{Line, Blob}
use Rattle.cap_run.specs.declared.fault.ListedFault.{ListedFault}
use Rattle.cap_run.specs.declared.fault.ListedFault.TheVariants.{NotHex, Truncated, Malformed, Group}
use Rattle.cap_run.specs.declared.fault.ListedFault.TheVariants.{Patchset, Columns}
use Rattle.cap_run.specs.declared.fault.RunFault.{RunFault}
use Rattle.cap_run.specs.declared.fault.RunFault.TheVariants.{BlobList}
use Rattle.cap_run.specs.BlobList.{texts_in}
use Rattle.cap_run.specs.Encoding.{encoded}

-- why a blob is not added to a changegroup
abbrev pub group_fault : GroupedRefusal → ListedFault
group_fault (grouped.Malformed fault) = Malformed fault
group_fault (grouped.Group why) = Group why

-- why a blob is no buffer or no local changeset
abbrev pub rebase_fault : RebasedRefusal → ListedFault
rebase_fault (rebased.Malformed fault) = Malformed fault
rebase_fault rebased.Patchset = Patchset
rebase_fault (rebased.Columns why) = Columns why

-- the fault by the number of the line, or of the blob
abbrev pub numbered_fault : Encoding → ℕ → ListedFault → RunFault
numbered_fault Hex number why = BlobList (Line number why)
numbered_fault Binary number why = BlobList (Blob number why)

-- what is so of the blob with this number, or its fault
abbrev pub numbered : {X : Type 0} → Encoding → ℕ → Result X ListedFault → Result X RunFault
numbered encoding number result = result_map_both (λ x. x) (numbered_fault encoding number) result

-- the bytes of the blob with this text
abbrev pub text_bytes : Encoding → List ℕ → Result (List ℕ) ListedFault
text_bytes Hex line = result_map_both (λ bytes. bytes) (λ error. NotHex) (decode_of line)
text_bytes Binary bytes = Ok bytes

-- the same, where the input does not end inside it
abbrev pub listed_bytes : Encoding → Option (List ℕ) → Result (List ℕ) ListedFault
listed_bytes encoding None = Err Truncated
listed_bytes encoding (Some text) = text_bytes encoding text

module _ {S : Type 0} (added : S → List ℕ → Result S ListedFault) where
  -- what is left by a blob with this text, where `added` is what one leaves by its bytes
  abbrev pub text_added : Encoding → S → Option (List ℕ) → Result S ListedFault
  text_added encoding before text = and_then (listed_bytes encoding text) (added before)

  -- what is left by blobs with these texts, one after the other, from this number on
  abbrev pub texts_added : Encoding → ℕ → S → List (Option (List ℕ)) → Result S RunFault
  texts_added encoding number before [] = Ok before
  texts_added encoding number before (text ∷ texts) =
      and_then (numbered encoding number (text_added encoding before text))
      (λ after. texts_added encoding (number + 1) after texts)

module _ {A : Type 0} where
  -- the changegroup after a blob with these bytes
  abbrev pub group_added : GroupContent A → List ℕ → Result (GroupContent A) ListedFault
  group_added group bytes = result_map_both (λ more. more) group_fault (bytes_added group bytes)

  -- the rebaser after the buffer with these bytes
  abbrev pub buffer_added : Buffers A → List ℕ → Result (Buffers A) ListedFault
  buffer_added buffers bytes = result_map_both (λ more. more) rebase_fault (configured_at buffers bytes)

  -- the local changeset with this text, over the buffers
  abbrev pub text_rebased : Encoding → KeyFlags → Buffers A → Option (List ℕ) → Result (List ℕ) ListedFault
  text_rebased encoding key_flags buffers text = and_then (listed_bytes encoding text)
      (λ bytes. result_map_both (λ out. out) rebase_fault (rebased_at key_flags buffers bytes))

-- the concatenation of blobs with these texts
abbrev pub concatenated : (A : Type 0) → Encoding → KeyFlags → List (Option (List ℕ)) →
    Result (List ℕ) RunFault
concatenated A encoding key_flags texts =
    and_then (texts_added (group_added {A = A}) encoding 1 empty_group texts)
    (λ group. Ok (blob_bytes_with key_flags (contents_of group)))

-- The first of the blobs with these texts over the buffers that the others are, in their order. Without blobs
-- it is the empty changeset. A fault of a buffer comes before one of the first blob.
abbrev pub first_rebased : (A : Type 0) → Encoding → KeyFlags → List (Option (List ℕ)) →
    Result (List ℕ) RunFault
first_rebased A encoding key_flags [] = Ok []
first_rebased A encoding key_flags (text ∷ texts) =
    and_then (texts_added (buffer_added {A = A}) encoding 2 [] texts)
    (λ buffers. numbered encoding 1 (text_rebased encoding key_flags buffers text))

-- the bytes that blobs with these texts make
abbrev pub bytes_combined : (A : Type 0) → CombinationKind → Encoding → KeyFlags → List (Option (List ℕ)) →
    Result (List ℕ) RunFault
bytes_combined A Concatenation encoding key_flags texts = concatenated A encoding key_flags texts
bytes_combined A Rebase encoding key_flags texts = first_rebased A encoding key_flags texts

-- the output for the blobs in an input
abbrev pub combined_at : (A : Type 0) → Combination → List ℕ → Result (List ℕ) RunFault
combined_at A combination given =
    and_then (bytes_combined A combination.kind combination.encoding combination.key_flags
    (texts_in combination.encoding given))
    (λ bytes. Ok (encoded combination.encoding bytes))
