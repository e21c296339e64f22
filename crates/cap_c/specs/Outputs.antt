-- What a call leaves with its caller, by its status.
use Rattle.std.specs.Prelude.{◌≡◌, ◌⊎◌, ℕ, pos, List, [], ◌++◌, drop, length}
use Rattle.std.specs.Prelude.{Option, Some, None, Result, Ok, Err}
use Rattle.cap_value.specs.declared.value.Value.{Value}
use Rattle.cap_value.specs.declared.value.Value.TheVariants.{Null, Int, Text, Blob}
use Rattle.cap_blob.specs.declared.refusal.ChangesetRefusal.{ChangesetRefusal}
use Rattle.cap_blob.specs.declared.refusal.ChangesetRefusal.TheVariants.{Malformed, Patchset}
use Rattle.cap_field.specs.declared.fault.BlobFault.{BlobFault}
use Rattle.cap_group.specs.declared.refusal.BlobRefusal.{BlobRefusal}
use Rattle.cap_group.specs.declared.refusal.BlobRefusal.TheVariants as not_added
use Rattle.cap_group.specs.declared.refusal.ConcatRefusal.{ConcatRefusal}
use Rattle.cap_c.specs.Fault.{placed}
use Rattle.cap_c.specs.Status.{IsUnlessMemory, bytes_status, concat_status, read_status, room_status}
use Rattle.cap_c.specs.declared.change_info.FieldValue.{FieldValue}
use Rattle.cap_c.specs.declared.fault.PlacedFault.{PlacedFault}
use Rattle.cap_c.specs.declared.status.TheConstants.{COLUMNS, KIND, MALFORMED, MISUSE, NOMEM, OK, ROOM}

-- The bytes are at the beginning of the buffer, and what was behind them is still there.
abbrev pub begins_with : List ℕ → List ℕ → List ℕ
begins_with bytes old = bytes ++ drop (length bytes) old

-- What bytes spell, or their fault, unless memory ran out. The fault is set where they spell nothing, and
-- then alone.
pub record Checks {X : Type 0} (read : Result X BlobFault) (status : ℕ) (old fault : PlacedFault)
    : Type 0 where
  pub status_is : IsUnlessMemory status (read_status read)
  pub fault_is : status ≡ MALFORMED → (wrong : BlobFault) × (read ≡ Err wrong) × (fault ≡ placed wrong)
  pub fault_kept : ¬ (status ≡ MALFORMED) → fault ≡ old

-- what is in the buffer, and the length, after these bytes were asked for
pub record Writes (bytes : List ℕ) (status : ℕ) (old new : List ℕ) (len : ℕ) : Type 0 where
  pub len_is : len ≡ length bytes
  pub written : status ≡ OK → new ≡ begins_with bytes old
  pub kept : ¬ (status ≡ OK) → new ≡ old

-- What a call for bytes leaves as it was: the buffer unless the bytes are in it, the length unless it is set,
-- and the fault unless the bytes of a blob have one.
pub record KeepsOthers (status : ℕ) (old new : List ℕ) (old_len len : ℕ) (old_fault fault : PlacedFault)
    : Type 0 where
  pub out_kept : ¬ (status ≡ OK) → new ≡ old
  pub len_kept : ¬ (status ≡ OK) → ¬ (status ≡ ROOM) → len ≡ old_len
  pub fault_kept : ¬ (status ≡ MALFORMED) → fault ≡ old_fault

-- The same of an answer that may be a refusal: nothing is written for it, and the fault is set.
abbrev pub Outputs : Result (List ℕ) ChangesetRefusal → ℕ → List ℕ → List ℕ → ℕ → PlacedFault → Type 0
Outputs (Ok bytes) status old new len fault = Writes bytes status old new len
Outputs (Err (Malformed wrong)) status old new len fault = (new ≡ old) × (fault ≡ placed wrong)
Outputs (Err Patchset) status old new len fault = new ≡ old

-- The bytes that were asked for, or their refusal, unless memory ran out. Else all is as it was.
pub record Converts (answer : Result (List ℕ) ChangesetRefusal) (status : ℕ) (old new : List ℕ)
    (old_len len : ℕ) (old_fault fault : PlacedFault) : Type 0 where
  pub status_is : IsUnlessMemory status (bytes_status answer (length old))
  pub outputs : ¬ (status ≡ NOMEM) → Outputs answer status old new len fault
  pub kept : KeepsOthers status old new old_len len old_fault fault

-- a number that names no key flags is misuse, and leaves all as it was
pub record Misuses (status : ℕ) (old new : List ℕ) (old_len len : ℕ) (old_fault fault : PlacedFault)
    : Type 0 where
  pub status_is : status ≡ MISUSE
  pub out_kept : new ≡ old
  pub len_kept : len ≡ old_len
  pub fault_kept : fault ≡ old_fault

-- the fault of a blob that is not added to those before it, where it has one
abbrev pub OutputsFault : BlobRefusal → PlacedFault → Type 0
OutputsFault (not_added.Malformed wrong) fault = fault ≡ placed wrong
OutputsFault (not_added.Group why) fault = Unit {0}

-- The same of a concatenation: the number of the refused blob is set too.
abbrev pub OutputsConcat : Result (List ℕ) ConcatRefusal → ℕ → List ℕ → List ℕ → ℕ → PlacedFault → ℕ → Type 0
OutputsConcat (Ok bytes) status old new len fault blob = Writes bytes status old new len
OutputsConcat (Err refusal) status old new len fault blob =
    (new ≡ old) × (blob ≡ refusal.blob) × OutputsFault refusal.why fault

pub record Concatenates (answer : Result (List ℕ) ConcatRefusal) (status : ℕ) (old new : List ℕ)
    (old_len len : ℕ) (old_fault fault : PlacedFault) (old_blob blob : ℕ) : Type 0 where
  pub status_is : IsUnlessMemory status (concat_status answer (length old))
  pub outputs : ¬ (status ≡ NOMEM) → OutputsConcat answer status old new len fault blob
  pub kept : KeepsOthers status old new old_len len old_fault fault
  pub blob_kept : ¬ (status ≡ MALFORMED) → ¬ (status ≡ KIND) → ¬ (status ≡ COLUMNS) → blob ≡ old_blob

-- what was asked for is set, or there is none and that is misuse
abbrev pub OutputsFound : {X : Type 0} → Option X → ℕ → X → X → Type 0
OutputsFound (Some found) status old new = (status ≡ OK) × (new ≡ found)
OutputsFound None status old new = (status ≡ MISUSE) × (new ≡ old)

-- the same of bytes
abbrev pub OutputsBytes : Option (List ℕ) → ℕ → List ℕ → List ℕ → ℕ → ℕ → Type 0
OutputsBytes (Some bytes) status old new old_len len =
    (status ≡ room_status (length bytes) (length old)) × Writes bytes status old new len
OutputsBytes None status old new old_len len = (status ≡ MISUSE) × (new ≡ old) × (len ≡ old_len)

-- there was no memory, and all is as it was
pub record GivesUp (status : ℕ) (old new : List ℕ) (old_len len : ℕ) : Type 0 where
  pub status_is : status ≡ NOMEM
  pub out_kept : new ≡ old
  pub len_kept : len ≡ old_len

-- bytes that are made for the call, unless memory runs out
abbrev pub OutputsMade : Option (List ℕ) → ℕ → List ℕ → List ℕ → ℕ → ℕ → Type 0
OutputsMade (Some bytes) status old new old_len len =
    OutputsBytes (Some bytes) status old new old_len len ⊎ GivesUp status old new old_len len
OutputsMade None status old new old_len len = OutputsBytes None status old new old_len len

module _ {A : Type 0} where
  -- a field, by SQLite's numbers of storage classes
  abbrev pub value_output : Option (Value A) → FieldValue
  value_output None = record { kind = 0; number = pos 0; len = 0 }
  value_output (Some (Int number)) = record { kind = 1; number = number; len = 0 }
  value_output (Some (Text text)) = record { kind = 3; number = pos 0; len = length text }
  value_output (Some (Blob blob)) = record { kind = 4; number = pos 0; len = length blob }
  value_output (Some Null) = record { kind = 5; number = pos 0; len = 0 }

  -- the bytes of a text or a blob
  abbrev pub value_bytes : Option (Value A) → List ℕ
  value_bytes None = []
  value_bytes (Some (Int number)) = []
  value_bytes (Some (Text text)) = text
  value_bytes (Some (Blob blob)) = blob
  value_bytes (Some Null) = []
