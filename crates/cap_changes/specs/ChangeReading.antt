-- Reading the changes of a group.
use Rattle.std.specs.Prelude.{ℕ, zero, suc, Bool, false, not, List, [], ◌∷◌, ◌++◌, Result, Ok, ◌==◌}
use Rattle.std.specs.Prelude.{if◌then◌else◌}
use Rattle.cap_changes.specs.declared.row_change.RowChange.{RowChange}
use Rattle.cap_changes.specs.declared.row_change.RowChange.TheVariants as changed
use Rattle.cap_changes.specs.declared.patch.Patch.{Patch}
use Rattle.cap_changes.specs.declared.patch.Patch.TheVariants as patched
use Rattle.cap_changes.specs.declared.operation.Operation.{Operation}
use Rattle.cap_changes.specs.declared.operation.Operation.TheVariants as operations
use Rattle.cap_changes.specs.declared.record_kind.RecordKind.{RecordKind}
use Rattle.cap_changes.specs.declared.record_kind.RecordKind.TheVariants as record_kinds
use Rattle.cap_changes.specs.Entries.{TableEntries}
use Rattle.cap_changes.specs.Operation.{is_operation}
use Rattle.cap_changes.specs.Requirements.{requirements, new_requirements}
use Rattle.cap_changes.specs.RecordReading.{record_at, value_in}
use Rattle.cap_field.specs.declared.fault.BlobFault.{BlobFault}
use Rattle.cap_field.specs.Reading.{◌>>=◌, byte_at}

-- any byte but zero flags a column of the key, or is a set indirect flag
abbrev pub is_set : ℕ → Bool
is_set byte = not (byte == 0)

-- the kind of the record of a change of a patchset
abbrev pub patch_kind : Operation → RecordKind
patch_kind operations.Insert = record_kinds.Full
patch_kind operations.Update = record_kinds.Keyed
patch_kind operations.Delete = record_kinds.KeyAlone

-- the bytes behind what is read
abbrev pub behind : {X : Type 0} → Result (X × List ℕ) BlobFault → Result (List ℕ) BlobFault
behind read = read >>= (λ x. Ok x.1)

module _ {A : Type 0} where
  -- a change of a changeset, behind its operation byte
  unfoldable pub change_at : ℕ → List Bool → ℕ → List ℕ → Result (RowChange A × List ℕ) BlobFault
  change_at total flags op bytes = byte_at total bytes >>= (λ flag_byte.
      if op == 0x12
      then record_at total (requirements record_kinds.Full flags) flag_byte.1
      >>= (λ new. Ok (changed.Insert (is_set flag_byte.0) new.0, new.1))
      else (if op == 0x17
      then record_at total (requirements record_kinds.Keyed flags) flag_byte.1
      >>= (λ old. record_at total (new_requirements flags old.0) old.1
      >>= (λ new. Ok (changed.Update (is_set flag_byte.0) old.0 new.0, new.1)))
      else record_at total (requirements record_kinds.Full flags) flag_byte.1
      >>= (λ old. Ok (changed.Delete (is_set flag_byte.0) old.0, old.1))))

  -- a change of a patchset, behind its operation byte
  unfoldable pub patch_at : ℕ → List Bool → ℕ → List ℕ → Result (Patch A × List ℕ) BlobFault
  patch_at total flags op bytes = byte_at total bytes >>= (λ flag_byte.
      if op == 0x12
      then record_at total (requirements record_kinds.Full flags) flag_byte.1
      >>= (λ new. Ok (patched.Insert (is_set flag_byte.0) new.0, new.1))
      else (if op == 0x17
      then record_at total (requirements record_kinds.Keyed flags) flag_byte.1
      >>= (λ new. Ok (patched.Update (is_set flag_byte.0) new.0, new.1))
      else record_at total (requirements record_kinds.KeyAlone flags) flag_byte.1
      >>= (λ key. Ok (patched.Delete (is_set flag_byte.0) key.0, key.1))))

module _ {X : Type 0} where
  -- Changes up to the end, or to a byte that is no operation. At most `most` of them, of which a list of
  -- bytes never has more than bytes.
  unfoldable pub changes_at : (ℕ → List Bool → ℕ → List ℕ → Result (X × List ℕ) BlobFault) → ℕ → ℕ →
      List Bool → List ℕ → Result (List X × List ℕ) BlobFault
  changes_at one_at zero total flags bytes = Ok ([], bytes)
  changes_at one_at (suc most) total flags [] = Ok ([], [])
  changes_at one_at (suc most) total flags (op ∷ bytes) =
      if is_operation op then one_at total flags op bytes >>= (λ change.
      changes_at one_at most total flags change.1 >>= (λ others. Ok (change.0 ∷ others.0, others.1)))
      else Ok ([], op ∷ bytes)

-- a group with these changes after its own
abbrev pub with_changes : {X : Type 0} → TableEntries X → Result (List X × List ℕ) BlobFault →
    Result (TableEntries X × List ℕ) BlobFault
with_changes group read =
    read >>= (λ changes. Ok (record group { changes = group.changes ++ changes.0 }, changes.1))

module _ {A : Type 0} where
  -- the change with these bytes
  unfoldable pub stored_change : List Bool → List ℕ → RowChange A
  stored_change flags [] = changed.Delete false []
  stored_change flags (op ∷ bytes) = value_in (changed.Delete false []) (change_at 0 flags op bytes)

  -- the same of a patchset
  unfoldable pub stored_patch : List Bool → List ℕ → Patch A
  stored_patch flags [] = patched.Delete false []
  stored_patch flags (op ∷ bytes) = value_in (patched.Delete false []) (patch_at 0 flags op bytes)
