-- A capture that a seat takes on a server, as bytes, applied to another database.
use Rattle.std.specs.Prelude.{◌≡◌, ℕ, List, [], ◌∷◌, ◌++◌, reverse}
use Rattle.cap_value.specs.declared.refusal.Refusal.TheVariants.{NoSession}
use Rattle.cap_database.specs.Tables.{Tables}
use Rattle.cap_changes.specs.Group.{TableChanges}
use Rattle.cap_changes.specs.Patch.{patch_list_of}
use Rattle.cap_codec.specs.Changeset.{list_bytes}
use Rattle.cap_codec.specs.Patchset.{patch_list_bytes}
use Rattle.cap_apply.specs.Applied.{AppliedState}
use Rattle.cap_session.specs.Session.{AttachedTables}
use Rattle.cap_core.specs.declared.command.Command.TheVariants.{Session}
use Rattle.cap_core.specs.declared.session_command.SessionCommand.TheVariants.{Capture}
use Rattle.cap_core.specs.declared.event.Event.{Event}
use Rattle.cap_core.specs.declared.reply.Reply.{Reply}
use Rattle.cap_core.specs.declared.reply.Reply.TheVariants as reply
use Rattle.cap_core.specs.Answer.{event_by, refusal}
use Rattle.cap_core.specs.AppliedCapture.{GivesRows, HoldsImages, changes_in}
use Rattle.cap_core.specs.Capture.{CaptureState}
use Rattle.cap_core.specs.History.{main}
use Rattle.cap_core.specs.Session.{session_of}
use Rattle.cap_history.specs.Seat.{HasCalled, SeatState}
use Rattle.cap_locked.specs.Fault.{LeavesSeat}
use Rattle.cap_test_replicas.specs.declared.replication.Form.{Form}
use Rattle.cap_test_replicas.specs.declared.replication.Form.TheVariants.{Changeset, Patchset}
use Rattle.cap_test_replicas.specs.declared.replication.NotReplicated.{NotReplicated}
use Rattle.cap_test_replicas.specs.declared.replication.NotReplicated.TheVariants.{Call, NoCapture}
use Rattle.cap_test_replicas.specs.declared.replication.NotReplicated.TheVariants.{NotApplied, OutOfMemory}

module _ {A : Type 0} where
  -- the bytes of these changes in a form
  abbrev pub bytes_in : Form → List (TableChanges A) → List ℕ
  bytes_in Changeset changes = list_bytes changes
  bytes_in Patchset changes = patch_list_bytes (patch_list_of changes)

  -- the reply is no capture
  abbrev pub IsNoCapture : Reply A → Type 0
  IsNoCapture (reply.Capture capture) = ⊥
  IsNoCapture _ = Unit {0}

  -- the tables and the session's records after a history
  abbrev pub tables_after : List (Event A) → Tables A
  tables_after history = main (reverse history)

  abbrev pub records_after : ℕ → List (Event A) → AttachedTables A
  records_after session history = (session_of (reverse history) session).tables

  -- the replica has the tables of the touched rows, and at each touched key its first image
  abbrev pub HoldsFirst : ℕ → List (Event A) → Tables A → Type 0
  HoldsFirst session history replica =
      HoldsImages replica (tables_after history) (records_after session history)

  -- The seat's capture is the sequential server's at one point of one growing history, which begins with all
  -- that the seat had seen. Where the replica held the first images, it now has at each touched key the row
  -- at that point, or none, and all else as before. All changes are applied, without a conflict.
  pub record IsReplicated (old new : SeatState A) (session : ℕ) (replica : Tables A) (left : AppliedState A)
      : Type 0 where
    pub capture : CaptureState A
    pub called : HasCalled old new (Session session Capture) (reply.Capture capture)
    pub rows : (before : List (Event A))
        → new.seen ≡ before ++ event_by old.number (Session session Capture) (reply.Capture capture) ∷ []
        → HoldsFirst session before replica
        → GivesRows replica (tables_after before) left.database (records_after session before)
        × (left.report
        ≡ record { applied = changes_in capture.changes; conflicts = []; omitted = []; skipped = [] })

  -- Why there is no replica: the server's call failed, no live session has the number, or the replica did not
  -- hold the first images.
  abbrev pub Explains : NotReplicated → SeatState A → SeatState A → ℕ → Tables A → Type 0
  Explains (Call fault) old new session replica = LeavesSeat fault old new
  Explains NoCapture old new session replica = HasCalled old new (Session session Capture) (refusal NoSession)
  Explains (NotApplied why) old new session replica =
      (capture : CaptureState A) × HasCalled old new (Session session Capture) (reply.Capture capture)
      × ((before : List (Event A))
      → new.seen ≡ before ++ event_by old.number (Session session Capture) (reply.Capture capture) ∷ []
      → HoldsFirst session before replica → ⊥)
  Explains OutOfMemory old new session replica = Unit {0}
