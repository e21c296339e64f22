-- What a reply has for the caller. Of a reply of another kind, which such a command never has, it is nothing.
use Rattle.std.specs.Prelude.{ℕ, Bool, false, List, [], length, Option, Some, None}
use Rattle.cap_apply.specs.declared.conflict.Conflict.{Conflict}
use Rattle.cap_changes.specs.Patch.{patch_list_of}
use Rattle.cap_codec.specs.Changeset.{list_bytes_with}
use Rattle.cap_codec.specs.Patchset.{patch_list_bytes_with}
use Rattle.cap_codec.specs.declared.key_flags.KeyFlags.{KeyFlags}
use Rattle.cap_database.specs.Snapshot.{SnapshotState}
use Rattle.cap_core.specs.Capture.{CaptureState}
use Rattle.cap_core.specs.declared.reply.Reply.{Reply}
use Rattle.cap_core.specs.declared.reply.Reply.TheVariants as reply
use Rattle.cap_connection.specs.declared.replies.Applied.{Applied}
use Rattle.cap_connection.specs.declared.captured.CaptureKind.{CaptureKind}
use Rattle.cap_connection.specs.declared.captured.CaptureKind.TheVariants.{Changeset, Patchset}

-- the bytes of a capture
abbrev pub captured_bytes : {A : Type 0} → CaptureKind → KeyFlags → CaptureState A → List ℕ
captured_bytes Changeset flags capture = list_bytes_with flags capture.changes
captured_bytes Patchset flags capture = patch_list_bytes_with flags (patch_list_of capture.changes)

module _ {A : Type 0} where
  abbrev pub nothing_in : Reply A → Unit {0}
  nothing_in reply = tt

  -- the number of the version or the session that was made
  abbrev pub number_in : Reply A → ℕ
  number_in (reply.Written version) = version
  number_in (reply.Session number) = number
  number_in _ = 0

  abbrev pub flag_in : Reply A → Bool
  flag_in (reply.Flag flag) = flag
  flag_in _ = false

  -- the new version, and how many changes there are of each kind
  abbrev pub applied_in : Reply A → Applied
  applied_in (reply.Applied version report) = record {
    version = version;
    applied = report.applied;
    conflicts = length report.conflicts;
    omitted = length report.omitted;
    skipped = length report.skipped;
  }
  applied_in _ = record { version = 0; applied = 0; conflicts = 0; omitted = 0; skipped = 0 }

  -- the conflicts of an application
  abbrev pub conflicts_in : Reply A → List Conflict
  conflicts_in (reply.Applied version report) = report.conflicts
  conflicts_in _ = []

  -- both
  abbrev pub outcome_in : Reply A → Applied × List Conflict
  outcome_in reply = (applied_in reply, conflicts_in reply)

  -- the tables with their version
  abbrev pub snapshot_in : Reply A → Option (SnapshotState A)
  snapshot_in (reply.Snapshot snapshot) = Some snapshot
  snapshot_in _ = None

  -- the session's changes, with the version of the tables
  abbrev pub captured_in : Reply A → Option (CaptureState A)
  captured_in (reply.Capture capture) = Some capture
  captured_in _ = None
