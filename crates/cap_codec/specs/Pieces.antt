-- Blobs in pieces: what is known of a blob by its prefix.
use Rattle.std.specs.Prelude.{◌≡◌, ℕ, ◌+◌, ◌<◌, ◌≤◌, Bool, true, false, List, ◌++◌, length, drop, Option}
use Rattle.std.specs.Prelude.{Some, None, Result, Ok, Err, IfSome, ◌==◌, if◌then◌else◌}
use Rattle.cap_value.specs.declared.memory.Fault.{Fault}
use Rattle.cap_value.specs.declared.memory.Fault.TheVariants.{Refused, OutOfMemory}
use Rattle.cap_field.specs.declared.fault.BlobFault.{BlobFault}
use Rattle.cap_field.specs.declared.fault.FaultKind.{FaultKind}
use Rattle.cap_field.specs.declared.fault.FaultKind.TheVariants.{Truncated}
use Rattle.cap_changes.specs.declared.row_change.RowChange.{RowChange}
use Rattle.cap_changes.specs.declared.patch.Patch.{Patch}
use Rattle.cap_codec.specs.declared.scan.Kind.{Kind}
use Rattle.cap_codec.specs.declared.scan.Kind.TheVariants as kinds
use Rattle.cap_codec.specs.declared.scan.ScanPosition.{ScanPosition}
use Rattle.cap_field.specs.Reading.{◌>>=◌, byte_at, place}
use Rattle.cap_codec.specs.HeaderReading.{header_at}
use Rattle.cap_changes.specs.KindByte.{changeset_kind, patchset_kind}
use Rattle.cap_changes.specs.Operation.{is_operation}
use Rattle.cap_changes.specs.ChangeReading.{change_at, patch_at, changes_at}
use Rattle.cap_codec.specs.BlobReading.{wrong_kind, entries_at, groups_at, blob_at}

-- the blob ends too early, which further bytes may mend
abbrev pub is_cut : FaultKind → Bool
is_cut Truncated = true
is_cut kind = false

-- the fault that no further bytes can mend
abbrev pub lasting : {X : Type 0} → Result X BlobFault → Result (Unit {0}) BlobFault
lasting (Ok x) = Ok tt
lasting (Err fault) = if is_cut fault.kind then Ok tt else Err fault

-- the fault alone
abbrev pub ended : {X : Type 0} → Result X BlobFault → Result (Unit {0}) BlobFault
ended read = read >>= (λ x. Ok tt)

-- whether the bytes end before what is read does
abbrev pub ends_early : {X : Type 0} → Result X BlobFault → Bool
ends_early (Ok x) = false
ends_early (Err fault) = is_cut fault.kind

-- the first byte of a group of this kind
abbrev pub kind_byte : Kind → ℕ
kind_byte kinds.Changes = changeset_kind
kind_byte kinds.Patches = patchset_kind

module _ {X : Type 0} (one_at : ℕ → List Bool → ℕ → List ℕ → Result (X × List ℕ) BlobFault) (kind : ℕ) where
  -- the next change or header in a group of these columns: the columns behind it, and the bytes
  abbrev pub part_at : ℕ → List Bool → List ℕ → Result (List Bool × List ℕ) BlobFault
  part_at total flags bytes = byte_at total bytes >>= (λ first.
      if is_operation first.0
      then one_at total flags first.0 first.1 >>= (λ change. Ok (flags, change.1))
      else (if first.0 == kind
      then header_at total first.1 >>= (λ header. Ok (header.0.flags, header.1))
      else Err (wrong_kind first.0 (place total bytes))))

  -- The changes of a group of these columns, and the groups behind it, have this fault or none.
  abbrev pub GoesOn : ℕ → List Bool → List ℕ → Result (Unit {0}) BlobFault → Type 0
  GoesOn total flags rest answer = (m n : ℕ) × (length rest ≤ m) × (length rest ≤ n)
      × (ended (changes_at one_at m total flags rest
      >>= (λ changes. groups_at (entries_at one_at) kind n total changes.1)) ≡ answer)

module _ (A : Type 0) where
  -- what groups of this kind have
  abbrev pub entry_of : Kind → Type 0
  entry_of kinds.Changes = RowChange A
  entry_of kinds.Patches = Patch A

  -- one of them behind its operation byte
  abbrev pub one_as : (kind : Kind) → ℕ → List Bool → ℕ → List ℕ → Result (entry_of kind × List ℕ) BlobFault
  one_as kinds.Changes = change_at
  one_as kinds.Patches = patch_at

  -- the next change or header in a group of this kind
  abbrev pub part_as : Kind → ℕ → List Bool → List ℕ → Result (List Bool × List ℕ) BlobFault
  part_as kind total flags bytes = part_at (one_as kind) (kind_byte kind) total flags bytes

  -- Whatever follows these bytes, their fault is that of the rest of them and of what follows, in a group of
  -- these columns.
  unfoldable pub Leads : Kind → List ℕ → List ℕ → List Bool → Type 0
  Leads kind bytes rest flags = (more : List ℕ) →
      GoesOn (one_as kind) (kind_byte kind) (length (bytes ++ more)) flags (rest ++ more)
      (ended (blob_at {A = A} (bytes ++ more)))

  -- Where the bytes end before the next change or header does, so do they with fewer than this many more.
  unfoldable pub Lacks : ℕ → List ℕ → ℕ → Type 0
  Lacks total bytes missing = (kind : Kind) (flags : List Bool) (more : List ℕ) → length more < missing →
      ends_early (part_as kind total flags bytes) ≡ true →
      ends_early (part_as kind (total + length more) flags (bytes ++ more)) ≡ true

  -- Whatever follows, no fault lasts before the blob has this many bytes.
  unfoldable pub IsQuiet : List ℕ → ℕ → Type 0
  IsQuiet bytes due = (more : List ℕ) → length (bytes ++ more) < due →
      lasting (blob_at {A = A} (bytes ++ more)) ≡ Ok tt

  -- A decoder that answered a fault has it. One that is out of memory is unchanged.
  abbrev pub KeepsFault : Result (Unit {0}) (Fault BlobFault) → List ℕ → List ℕ → Type 0
  KeepsFault (Ok x) old new = Unit {0}
  KeepsFault (Err (Refused fault)) old new = lasting (blob_at {A = A} new) ≡ Err fault
  KeepsFault (Err OutOfMemory) old new = new ≡ old

module _ {A : Type 0} where
  -- the bytes from the position on are still to be scanned
  abbrev pub IsPlace : List ℕ → ScanPosition A → Type 0
  IsPlace bytes place = (place.at ≤ length bytes) × Leads A place.kind bytes (drop place.at bytes) place.flags.items

  -- the same, and none of them need be scanned before they are due
  abbrev pub IsScanned : List ℕ → ScanPosition A → Type 0
  IsScanned bytes place = IsPlace bytes place × IsQuiet A bytes place.due

  -- the bytes of a decoder, how far they are scanned, and the fault that it answered
  abbrev pub IsLookedAt : List ℕ → Option (ScanPosition A) → Option BlobFault → Type 0
  IsLookedAt bytes place None = (lasting (blob_at {A = A} bytes) ≡ Ok tt) × IfSome place (IsScanned bytes)
  IsLookedAt bytes place (Some fault) = lasting (blob_at {A = A} bytes) ≡ Err fault

  -- the scan reached this position, or the lasting fault
  abbrev pub Scans : Result (Option (ScanPosition A)) (Fault BlobFault) → List ℕ → Type 0
  Scans (Ok place) bytes = IsLookedAt bytes place None
  Scans (Err (Refused fault)) bytes = IsLookedAt bytes None (Some fault)
  Scans (Err OutOfMemory) bytes = Unit {0}
