-- What a call for a rebased changeset leaves with its caller, by its status.
use Rattle.std.specs.Prelude.{◌≡◌, ℕ, List, length, Result, Ok, Err}
use Rattle.cap_rebase.specs.declared.refusal.BlobRefusal.{BlobRefusal}
use Rattle.cap_rebase.specs.declared.refusal.BlobRefusal.TheVariants.{Malformed, Patchset, Columns}
use Rattle.cap_rebase.specs.declared.refusal.NumberedRefusal.{NumberedRefusal}
use Rattle.cap_c.specs.Fault.{placed}
use Rattle.cap_c.specs.Outputs.{KeepsOthers, Writes}
use Rattle.cap_c.specs.Status.{IsUnlessMemory, room_status}
use Rattle.cap_c.specs.declared.fault.PlacedFault.{PlacedFault}
use Rattle.cap_c.specs.declared.status.TheConstants.{COLUMNS, MALFORMED, NOMEM, PATCHSET}

-- of a blob that is refused
abbrev pub refused_status : BlobRefusal → ℕ
refused_status (Malformed fault) = MALFORMED
refused_status Patchset = PATCHSET
refused_status (Columns why) = COLUMNS

-- of the bytes, or of the refusal of a blob
abbrev pub rebased_status : Result (List ℕ) NumberedRefusal → ℕ → ℕ
rebased_status (Ok bytes) room = room_status (length bytes) room
rebased_status (Err refusal) room = refused_status refusal.why

-- the fault of a blob that is refused, where it has one
abbrev pub OutputsFault : BlobRefusal → PlacedFault → Type 0
OutputsFault (Malformed wrong) fault = fault ≡ placed wrong
OutputsFault Patchset fault = Unit {0}
OutputsFault (Columns why) fault = Unit {0}

-- the bytes, or which blob is refused, and its fault
abbrev pub OutputsRebased : Result (List ℕ) NumberedRefusal → ℕ → List ℕ → List ℕ → ℕ → PlacedFault → ℕ →
    Type 0
OutputsRebased (Ok bytes) status old new len fault blob = Writes bytes status old new len
OutputsRebased (Err refusal) status old new len fault blob =
    (new ≡ old) × (blob ≡ refusal.blob) × OutputsFault refusal.why fault

pub record Rebases (answer : Result (List ℕ) NumberedRefusal) (status : ℕ) (old new : List ℕ)
    (old_len len : ℕ) (old_fault fault : PlacedFault) (old_blob blob : ℕ) : Type 0 where
  pub status_is : IsUnlessMemory status (rebased_status answer (length old))
  pub outputs : ¬ (status ≡ NOMEM) → OutputsRebased answer status old new len fault blob
  pub kept : KeepsOthers status old new old_len len old_fault fault
  pub blob_kept : ¬ (status ≡ MALFORMED) → ¬ (status ≡ PATCHSET) → ¬ (status ≡ COLUMNS) → blob ≡ old_blob
