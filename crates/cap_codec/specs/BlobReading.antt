-- Reading the groups of a blob, and a whole blob.
use Rattle.std.specs.Prelude.{ℕ, zero, suc, Bool, List, [], ◌∷◌, length, Result, Ok, Err, ◌==◌, ◌||◌}
use Rattle.std.specs.Prelude.{if◌then◌else◌}
use Rattle.cap_changes.specs.Entries.{TableEntries}
use Rattle.cap_field.specs.declared.fault.BlobFault.{BlobFault}
use Rattle.cap_field.specs.declared.fault.FaultKind.TheVariants.{BadHeader, BadOp, Mixed}
use Rattle.cap_codec.specs.declared.read.Contents.{Contents}
use Rattle.cap_codec.specs.declared.read.Contents.TheVariants.{Changes, Patches}
use Rattle.cap_field.specs.Reading.{◌>>=◌, fault, place}
use Rattle.cap_changes.specs.ChangeReading.{change_at, patch_at, changes_at, with_changes}
use Rattle.cap_codec.specs.HeaderReading.{header_at}
use Rattle.cap_changes.specs.KindByte.{changeset_kind, patchset_kind}

abbrev pub is_kind : ℕ → Bool
is_kind kind = (kind == changeset_kind) || (kind == patchset_kind)

-- a byte that neither continues a group of this kind nor begins another
abbrev pub wrong_kind : ℕ → ℕ → BlobFault
wrong_kind kind at =
    if is_kind kind then record { at = at; kind = Mixed } else record { at = at; kind = BadOp }

-- a group behind its kind byte, given the reader of a change
abbrev pub entries_at : {X : Type 0} → (ℕ → List Bool → ℕ → List ℕ → Result (X × List ℕ) BlobFault) → ℕ →
    List ℕ → Result (TableEntries X × List ℕ) BlobFault
entries_at {X} one_at total bytes = header_at total bytes >>= (λ header.
    with_changes {X = X} (record { table = header.0.table; schema = header.0.flags; changes = [] })
    (changes_at one_at (length header.1) total header.0.flags header.1))

module _ {X : Type 0} where
  -- Groups of one kind up to the end, at most `most` of them.
  unfoldable pub groups_at : (ℕ → List ℕ → Result (X × List ℕ) BlobFault) → ℕ → ℕ → ℕ → List ℕ →
      Result (List X) BlobFault
  groups_at one_at kind zero total bytes = Ok []
  groups_at one_at kind (suc most) total [] = Ok []
  groups_at one_at kind (suc most) total (byte ∷ bytes) =
      if byte == kind
      then one_at total bytes
      >>= (λ group. groups_at one_at kind most total group.1 >>= (λ others. Ok (group.0 ∷ others)))
      else Err (wrong_kind byte (place total (byte ∷ bytes)))

module _ {A : Type 0} where
  -- all of the bytes: the kind of the first group is that of the blob
  unfoldable pub blob_at : List ℕ → Result (Contents A) BlobFault
  blob_at [] = Ok (Changes [])
  blob_at (kind ∷ bytes) =
      if kind == changeset_kind
      then groups_at (entries_at change_at) kind (length (kind ∷ bytes)) (length (kind ∷ bytes))
      (kind ∷ bytes)
      >>= (λ groups. Ok (Changes groups))
      else (if kind == patchset_kind
      then groups_at (entries_at patch_at) kind (length (kind ∷ bytes)) (length (kind ∷ bytes)) (kind ∷ bytes)
      >>= (λ groups. Ok (Patches groups))
      else fault BadHeader 0)
