-- An application on a snapshot that stops at each conflict, which its caller answers.
use Rattle.std.specs.Prelude.{◌≡◌, ◌⊎◌, ℕ, Bool, false, List, length, Option, Some, None, Result, Ok, Err, IfSome}
use Rattle.std.specs.Prelude.{option_and_then, is_some, ◌==◌, if◌then◌else◌}
use Rattle.std.specs.Option.{option_map, option_map_or}
use Rattle.std.specs.Str.{is_utf8}
use Rattle.std.specs.Global.{Global}
use Rattle.cap_value.specs.declared.memory.Fault.{Fault}
use Rattle.cap_value.specs.declared.memory.Fault.TheVariants as stop
use Rattle.cap_value.specs.declared.refusal.Refusal.{Refusal}
use Rattle.cap_value.specs.declared.refusal.Refusal.TheVariants as refusal
use Rattle.cap_row.specs.Fields.{Fields}
use Rattle.cap_filter.specs.Reading.{filter_of}
use Rattle.cap_filter.specs.Rule.{Rule}
use Rattle.cap_database.specs.Snapshot.{SnapshotState}
use Rattle.cap_database.specs.Tables.{Tables}
use Rattle.cap_txn.specs.Batch.{BatchState}
use Rattle.cap_txn.specs.Sound.{Leaves}
use Rattle.cap_txn.specs.Transaction.{TxnState, batch_of}
use Rattle.cap_codec.specs.BlobReading.{blob_at}
use Rattle.cap_field.specs.declared.fault.BlobFault.{BlobFault}
use Rattle.cap_codec.specs.declared.key_flags.KeyFlags.{KeyFlags}
use Rattle.cap_codec.specs.declared.read.Contents.{Contents}
use Rattle.cap_apply.specs.declared.conflict.ConflictKind.{ConflictKind}
use Rattle.cap_apply.specs.declared.policy.Answer.{Answer}
use Rattle.cap_applier.specs.Applier.{ApplierState, answered, begun, merged_at, met}
use Rattle.cap_applier.specs.Looked.{SameRows}
use Rattle.cap_applier.specs.Merge.{refused_merge}
use Rattle.cap_applier.specs.Reach.{IsReached}
use Rattle.cap_applier.specs.Transaction.{transaction_of}
use Rattle.cap_applier.specs.declared.merge.MergeRefusal.{MergeRefusal}
use Rattle.cap_applier.specs.declared.merge.MergeRefusal.TheVariants.{NoConflict, WrongWidth, OtherKey}
use Rattle.cap_applier.specs.declared.row_conflict.RowConflict.{RowConflict}
use Rattle.cap_records.specs.Record.{row_in, values_bytes}
use Rattle.cap_connection.specs.Fields.{fields_before, head_at, schema_at, side_at, table_at}
use Rattle.cap_connection.specs.Iter.{buffer_in, is_patchset}
use Rattle.cap_connection.specs.declared.application.ApplicationFault.{ApplicationFault}
use Rattle.cap_connection.specs.declared.application.ApplicationFault.TheVariants as fault
use Rattle.cap_connection.specs.declared.iter_fields.ChangeHead.{ChangeHead}
use Rattle.cap_connection.specs.declared.iter_position.Position.{Position}
use Rattle.cap_connection.specs.declared.iter_record.Side.{Side}
use Rattle.cap_connection.specs.declared.iter_record.Side.TheVariants.{Old, New}
use Rattle.cap_connection.specs.declared.replies.Applied.{Applied}

-- The snapshot with which it began, and how far it has come: none where it was refused or ran out of memory, and
-- is over.
pub record ApplicationState : Type 0 where
  pub base : SnapshotState Global
  pub applier : Option (ApplierState Global)

-- ---- Where it stands

abbrev pub at_conflict : ApplierState Global → Option (RowConflict Global) → Option (ApplierState Global)
at_conflict s None = None
at_conflict s (Some conflict) = Some s

-- at a conflict, or none
abbrev pub standing : ApplicationState → Option (ApplierState Global)
standing app = option_and_then (λ s. at_conflict s (met s)) app.applier

-- whether there is a conflict to be answered
abbrev pub at_conflict_of : ApplicationState → Option Bool
at_conflict_of app = option_map (λ s. is_some (met s)) app.applier

abbrev pub conflict_of : ApplicationState → Option (RowConflict Global)
conflict_of app = option_and_then met app.applier

abbrev pub kind_of : ApplicationState → Option ConflictKind
kind_of app = option_map (λ conflict. conflict.kind) (conflict_of app)

-- the number of the change, counted from 0 over the whole blob
abbrev pub number_of : ApplicationState → Option ℕ
number_of app = option_map (λ s. s.progress.number) (standing app)

abbrev pub position_of : ApplierState Global → Position
position_of s = record { group = s.progress.group; change = s.progress.change }

abbrev pub columns_at : ApplierState Global → ℕ
columns_at s = option_map_or length (schema_at s.blob s.progress.group) 0

abbrev pub columns_of : ApplicationState → ℕ
columns_of app = option_map_or columns_at (standing app) 0

abbrev pub table_of : ApplicationState → Option (List ℕ)
table_of app = option_and_then (λ s. table_at s.blob s.progress.group) (standing app)

abbrev pub head_of : ApplicationState → Option ChangeHead
head_of app = option_and_then (λ s. head_at s.blob (position_of s)) (standing app)

abbrev pub is_of_patchset : ApplicationState → Bool
is_of_patchset app = option_map_or (λ s. is_patchset s.blob) (standing app) false

-- the record of the row on one side of the change, a field for each column
abbrev pub record_at : Side → ApplierState Global → List ℕ
record_at side s = fields_before (side_at side s.blob (position_of s)) (columns_at s)

abbrev pub old_record_of : ApplicationState → Option (List ℕ)
old_record_of app = option_map (record_at Old) (standing app)

abbrev pub new_record_of : ApplicationState → Option (List ℕ)
new_record_of app = option_map (record_at New) (standing app)

-- the record of the row that is there, after the changes of the blob before this one
abbrev pub present_record_of : ApplicationState → Option (List ℕ)
present_record_of app =
    option_and_then (λ conflict. option_map values_bytes conflict.row) (conflict_of app)

-- ---- Its calls

-- the table filter of a text, none of the empty text; bytes that are not UTF-8 are misuse
abbrev pub filter_misuse : List ℕ → Option ApplicationFault
filter_misuse text = if is_utf8 text then None else Some fault.Misuse

abbrev pub filter_read : Result Rule Refusal → Result (Option Rule) ApplicationFault
filter_read (Ok rule) = Ok (Some rule)
filter_read (Err why) = Err (fault.NoFilter why)

abbrev pub filter_unless : Option ApplicationFault → List ℕ → Result (Option Rule) ApplicationFault
filter_unless (Some why) text = Err why
filter_unless None text = if length text == 0 then Ok None else filter_read (filter_of text)

abbrev pub filter_in : List ℕ → Result (Option Rule) ApplicationFault
filter_in text = filter_unless (filter_misuse text) text

-- it stands at the first conflict, or at the end
abbrev pub BeginsOf : SnapshotState Global → Contents Global → Option Rule → ApplicationState → Type 0
BeginsOf base blob filter app = (s : ApplierState Global)
    × IsReached (begun base.database blob filter) s × (app ≡ record { base = base; applier = Some s })

-- of the blob that was read, or its fault
abbrev pub BeginsOn : SnapshotState Global → Option Rule → Result (Contents Global) BlobFault →
    Result ApplicationState (Fault ApplicationFault) → Type 0
BeginsOn base filter (Ok blob) (Ok app) = BeginsOf base blob filter app
BeginsOn base filter (Err wrong) (Err (stop.Refused told)) = told ≡ fault.Malformed wrong
BeginsOn base filter blob (Err stop.OutOfMemory) = Unit {0}
BeginsOn base filter _ _ = ⊥

-- the filter is read first
abbrev pub BeginsBy : SnapshotState Global → List ℕ → Result (Option Rule) ApplicationFault →
    Result ApplicationState (Fault ApplicationFault) → Type 0
BeginsBy base blob (Ok filter) result = BeginsOn base filter (blob_at blob) result
BeginsBy base blob (Err why) (Err (stop.Refused told)) = told ≡ why
BeginsBy base blob (Err why) (Err stop.OutOfMemory) = Unit {0}
BeginsBy base blob (Err why) (Ok app) = ⊥

abbrev pub Begins : SnapshotState Global → List ℕ → List ℕ →
    Result ApplicationState (Fault ApplicationFault) → Type 0
Begins base blob filter result = BeginsBy base blob (filter_in filter) result

-- whether a call was carried out
abbrev pub Done : Type 0
Done = Result (Unit {0}) (Fault ApplicationFault)

-- a call that has no meaning where it stands; nothing changes
abbrev pub IsMisuse : ApplicationState → ApplicationState → Done → Type 0
IsMisuse old new result = (result ≡ Err (stop.Refused fault.Misuse)) × (new ≡ old)

-- it went on from there to the next conflict or to the end
abbrev pub GoesOnFrom : ApplierState Global → ApplicationState → ApplicationState → Type 0
GoesOnFrom from old new = (to : ApplierState Global)
    × IsReached from to × (new ≡ record { base = old.base; applier = Some to })

abbrev pub IsOver : ApplicationState → ApplicationState → Type 0
IsOver old new = new ≡ record { base = old.base; applier = None }

-- the answer is accepted and it goes on, or the answer or want of memory ends it
abbrev pub GoesOnBy : Result (ApplierState Global) Refusal → ApplicationState → ApplicationState → Done → Type 0
GoesOnBy (Ok from) old new (Ok done) = GoesOnFrom from old new
GoesOnBy (Err why) old new (Err (stop.Refused told)) = (told ≡ fault.Refused why) × IsOver old new
GoesOnBy answer old new (Err stop.OutOfMemory) = IsOver old new
GoesOnBy _ old new _ = ⊥

abbrev pub AnswersAt : Answer → Option (ApplierState Global) → ApplicationState → ApplicationState → Done → Type 0
AnswersAt answer None old new result = IsMisuse old new result
AnswersAt answer (Some s) old new result = GoesOnBy (answered answer s) old new result

-- the conflict at which it stands is answered so; where it stands at none, that is misuse
abbrev pub AnswersWith : Answer → ApplicationState → ApplicationState → Done → Type 0
AnswersWith answer old new result = AnswersAt answer (standing old) old new result

-- what a row that may not stand in place of the change is told as
abbrev pub merge_fault : MergeRefusal → ApplicationFault
merge_fault NoConflict = fault.Misuse
merge_fault WrongWidth = fault.Refused refusal.WrongWidth
merge_fault OtherKey = fault.Misuse

abbrev pub merge_unless : Option MergeRefusal → Fields Global → Result (Fields Global) ApplicationFault
merge_unless None row = Ok row
merge_unless (Some why) row = Err (merge_fault why)

abbrev pub merge_read : ApplierState Global → Result (Fields Global) BlobFault →
    Result (Fields Global) ApplicationFault
merge_read s (Ok row) = merge_unless (refused_merge s row) row
merge_read s (Err wrong) = Err (fault.Malformed wrong)

-- the row that bytes spell, where it may stand in place of the change
abbrev pub row_to_merge : ApplierState Global → List ℕ → Result (Fields Global) ApplicationFault
row_to_merge s bytes = merge_read s (row_in bytes)

-- It stands there and the application goes on, or nothing changes. Where memory runs out it is as it was, or
-- over.
abbrev pub MergesAs : ApplierState Global → Result (Fields Global) ApplicationFault → ApplicationState →
    ApplicationState → Done → Type 0
MergesAs s (Ok row) old new (Ok done) = GoesOnFrom (merged_at (met s) row s) old new
MergesAs s (Err why) old new (Err (stop.Refused told)) = (told ≡ why) × (new ≡ old)
MergesAs s row old new (Err stop.OutOfMemory) = (new ≡ old) ⊎ IsOver old new
MergesAs s _ old new _ = ⊥

abbrev pub MergesAt : List ℕ → Option (ApplierState Global) → ApplicationState → ApplicationState → Done → Type 0
MergesAt row None old new result = IsMisuse old new result
MergesAt row (Some s) old new result = MergesAs s (row_to_merge s row) old new result

-- the row of these bytes stands there in place of the change, or may not
abbrev pub MergesRow : List ℕ → ApplicationState → ApplicationState → Done → Type 0
MergesRow row old new result = MergesAt row (standing old) old new result

-- ---- Its end

-- at the end, or none
abbrev pub at_end : ApplierState Global → Option (RowConflict Global) → Option (ApplierState Global)
at_end s None = Some s
at_end s (Some conflict) = None

abbrev pub ended : ApplicationState → Option (ApplierState Global)
ended app = option_and_then (λ s. at_end s (met s)) app.applier

abbrev pub batch_in : Result (TxnState Global) Refusal → Result (BatchState Global) ApplicationFault
batch_in (Ok txn) = Ok (batch_of txn)
batch_in (Err why) = Err (fault.Refused why)

-- the batch of its transaction; before the end that is misuse
abbrev pub batch_left : ApplicationState → Result (BatchState Global) ApplicationFault
batch_left app = option_map_or (λ s. batch_in (transaction_of app.base s)) (ended app) (Err fault.Misuse)

-- on the snapshot the batch leaves the rows that the application left
abbrev pub MakesRowsOf : ApplierState Global → ApplicationState → BatchState Global → Type 0
MakesRowsOf s app batch = (after : Tables Global) → Leaves app.base.database batch.ops after
    → SameRows s.progress.applied.database after

-- and its operations are accepted there
pub record MakesItsRows (app : ApplicationState) (batch : BatchState Global) : Type 0 where
  pub after : Tables Global
  pub accepted : Leaves app.base.database batch.ops after
  pub rows : IfSome app.applier (λ s. MakesRowsOf s app batch)

-- what became of its changes so far, with the snapshot's version
abbrev pub report_at : ApplicationState → ApplierState Global → Applied
report_at app s = record {
  version = app.base.version;
  applied = s.progress.applied.report.applied;
  conflicts = length s.progress.applied.report.conflicts;
  omitted = length s.progress.applied.report.omitted;
  skipped = length s.progress.applied.report.skipped;
}

abbrev pub report_of : ApplicationState → Option Applied
report_of app = option_map (report_at app) app.applier

-- the buffer of its conflicts so far; a patchset has none
abbrev pub buffer_left : KeyFlags → ApplicationState → Option (List ℕ)
buffer_left flags app =
    option_and_then (λ s. buffer_in flags s.blob s.progress.applied.report.conflicts) app.applier
