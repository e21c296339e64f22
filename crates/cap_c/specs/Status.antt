-- The status of each answer.
use Rattle.std.specs.Prelude.{◌≡◌, ℕ, List, length, nat_lt, Result, Ok, Err, if◌then◌else◌}
use Rattle.cap_blob.specs.declared.refusal.ChangesetRefusal.{ChangesetRefusal}
use Rattle.cap_blob.specs.declared.refusal.ChangesetRefusal.TheVariants as refused
use Rattle.cap_field.specs.declared.fault.BlobFault.{BlobFault}
use Rattle.cap_group.specs.declared.refusal.BlobRefusal.{BlobRefusal}
use Rattle.cap_group.specs.declared.refusal.BlobRefusal.TheVariants as not_added
use Rattle.cap_group.specs.declared.refusal.ConcatRefusal.{ConcatRefusal}
use Rattle.cap_group.specs.declared.refusal.GroupRefusal.TheVariants.{OtherKind, OtherColumns}
use Rattle.cap_c.specs.declared.status.TheConstants.{MALFORMED, NOMEM, OK, PATCHSET, ROOM}
use Rattle.cap_c.specs.declared.status.TheConstants.{COLUMNS, KIND}

-- of a blob that was read, or of its fault
abbrev pub read_status : {X : Type 0} → Result X BlobFault → ℕ
read_status (Ok contents) = OK
read_status (Err fault) = MALFORMED

-- of so many bytes, for which there is so much room
abbrev pub room_status : ℕ → ℕ → ℕ
room_status len room = if nat_lt room len then ROOM else OK

-- of bytes asked for, or of their refusal
abbrev pub bytes_status : Result (List ℕ) ChangesetRefusal → ℕ → ℕ
bytes_status (Ok bytes) room = room_status (length bytes) room
bytes_status (Err (refused.Malformed fault)) room = MALFORMED
bytes_status (Err refused.Patchset) room = PATCHSET

-- of a blob that is not added to those before it
abbrev pub refused_status : BlobRefusal → ℕ
refused_status (not_added.Malformed fault) = MALFORMED
refused_status (not_added.Group OtherKind) = KIND
refused_status (not_added.Group (OtherColumns group)) = COLUMNS

-- of the bytes of a concatenation, or of the refusal of one of its blobs
abbrev pub concat_status : Result (List ℕ) ConcatRefusal → ℕ → ℕ
concat_status (Ok bytes) room = room_status (length bytes) room
concat_status (Err refusal) room = refused_status refusal.why

-- this status, unless memory ran out
abbrev pub IsUnlessMemory : ℕ → ℕ → Type 0
IsUnlessMemory status answer = ¬ (status ≡ NOMEM) → status ≡ answer
