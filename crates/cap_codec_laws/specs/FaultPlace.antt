-- Where bytes stop being those of a blob.
use Rattle.std.specs.Prelude.{◌≡◌, ◌⊎◌, ℕ, ◌<◌, ◌≤◌, false, true, List, [], ◌∷◌, ◌++◌, length}
use Rattle.std.specs.List.{list_any, AllByRecursion}
use Rattle.std.specs.Str.{is_utf8}
use Rattle.cap_field.specs.declared.fault.BlobFault.{BlobFault}
use Rattle.cap_field.specs.declared.fault.FaultKind.{FaultKind}
use Rattle.cap_field.specs.declared.fault.FaultKind.TheVariants.{Truncated, BadHeader, BadVarint, BadName}
use Rattle.cap_field.specs.declared.fault.FaultKind.TheVariants.{BadOp, BadField, Real, BadText, BadRecord}
use Rattle.cap_field.specs.declared.fault.FaultKind.TheVariants.{Mixed}
use Rattle.cap_codec.specs.declared.read.Contents.{Contents}
use Rattle.cap_changes.specs.Operation.{is_operation}
use Rattle.cap_codec.specs.BlobReading.{is_kind}
use Rattle.cap_field.specs.Field.{sized_bytes}
use Rattle.cap_codec.specs.HeaderReading.{is_zero}
use Rattle.cap_changes.specs.ChangeReading.{is_set}
use Rattle.cap_codec.specs.Spelling.{Spells}
use Rattle.cap_field.specs.Varint.{varint_bytes}

-- The part with a fault of this kind:
-- `BadHeader`: the first byte of the blob, which begins no group; a column count; or key flags of no column.
-- `BadVarint`: a first group of zeros, or a fifth byte that is not the last.
-- `BadName`: an empty name or one that is not UTF-8, with its zero byte; or 256 bytes of which none is zero.
-- `BadOp`, `Mixed`: a byte that begins no change and no group, or a group.
-- `BadField`: a type byte, or one with a length behind it.
-- `Real`, `BadRecord`: a type byte.
-- `BadText`: a text, from its type byte on.
abbrev pub IsFaultyPart : FaultKind → List ℕ → Type 0
IsFaultyPart Truncated part = ⊥
IsFaultyPart BadHeader part =
    ((byte : ℕ) × (part ≡ byte ∷ []) × (is_kind byte ≡ false))
    ⊎ (((n : ℕ) × (part ≡ varint_bytes n) × ((n ≡ 0) ⊎ (2000 < n))) ⊎ (list_any is_set part ≡ false))
IsFaultyPart BadVarint part =
    (part ≡ 128 ∷ []) ⊎ ((length part ≡ 5) × AllByRecursion (λ byte. 128 ≤ byte) part)
IsFaultyPart BadName part =
    ((name : List ℕ) × (part ≡ name ++ 0 ∷ []) × ((name ≡ []) ⊎ (is_utf8 name ≡ false)))
    ⊎ ((length part ≡ 256) × (list_any is_zero part ≡ false))
IsFaultyPart BadOp part =
    (byte : ℕ) × (part ≡ byte ∷ []) × (is_operation byte ≡ false) × (is_kind byte ≡ false)
IsFaultyPart BadField part =
    ((byte : ℕ) × (part ≡ byte ∷ []) × (5 < byte))
    ⊎ ((byte : ℕ) × (n : ℕ) × (part ≡ byte ∷ varint_bytes n) × (1000000000 < n))
IsFaultyPart Real part = part ≡ 2 ∷ []
IsFaultyPart BadText part = (text : List ℕ) × (part ≡ 3 ∷ sized_bytes text) × (is_utf8 text ≡ false)
IsFaultyPart BadRecord part = (byte : ℕ) × (part ≡ byte ∷ []) × (byte ≤ 5)
IsFaultyPart Mixed part = (byte : ℕ) × (part ≡ byte ∷ []) × (is_kind byte ≡ true)

module _ (A : Type 0) where
  -- some blob begins with these bytes
  abbrev pub Begins : List ℕ → Type 0
  Begins bytes = (more : List ℕ) × (blob : Contents A) × Spells blob (bytes ++ more)

  -- Some blob begins with the bytes before the fault's offset, and none with these and the faulty part, which
  -- stands there.
  unfoldable pub IsFaultAt : List ℕ → BlobFault → Type 0
  IsFaultAt bytes fault =
      (front : List ℕ) × (part : List ℕ) × (rest : List ℕ) × (bytes ≡ front ++ (part ++ rest))
      × (length front ≡ fault.at) × IsFaultyPart fault.kind part
      × Begins front × (Begins (front ++ part) → ⊥)
