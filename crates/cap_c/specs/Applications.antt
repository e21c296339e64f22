-- What a call on an application leaves with its caller.
use Rattle.std.specs.Prelude.{◌≡◌, ℕ, Bool, List, Option, Some, None, Result, Ok, Err}
use Rattle.std.specs.Option.{option_map, option_map_or}
use Rattle.std.specs.Global.{Global}
use Rattle.cap_value.specs.Memory.{AnswersUnlessMemory}
use Rattle.cap_value.specs.declared.memory.Fault.{Fault}
use Rattle.cap_value.specs.declared.memory.Fault.TheVariants as stop
use Rattle.cap_value.specs.declared.refusal.Refusal.{Refusal}
use Rattle.cap_value.specs.declared.refusal.Refusal.TheVariants.{Aborted, Misuse}
use Rattle.cap_database.specs.Snapshot.{SnapshotState}
use Rattle.cap_txn.specs.Batch.{BatchState}
use Rattle.cap_changes.specs.Operation.{operation_byte}
use Rattle.cap_codec.specs.declared.key_flags.KeyFlags.{KeyFlags}
use Rattle.cap_apply.specs.declared.conflict.ConflictKind.{ConflictKind}
use Rattle.cap_apply.specs.declared.conflict.ConflictKind.TheVariants.{Data, NotFound, Conflict}
use Rattle.cap_apply.specs.declared.policy.Answer.{Answer}
use Rattle.cap_connection.specs.Application.{AnswersWith, ApplicationState, Begins, Done, IsMisuse}
use Rattle.cap_connection.specs.Application.{batch_left, buffer_left, columns_of, head_of, is_of_patchset}
use Rattle.cap_connection.specs.Application.{kind_of, report_of}
use Rattle.cap_connection.specs.declared.application.ApplicationFault.{ApplicationFault}
use Rattle.cap_connection.specs.declared.application.ApplicationFault.TheVariants as fault
use Rattle.cap_connection.specs.declared.replies.Applied.{Applied}
use Rattle.cap_c.specs.Bits.{bit}
use Rattle.cap_c.specs.Fault.{placed}
use Rattle.cap_c.specs.Handle.{OpensOn}
use Rattle.cap_c.specs.IterOutputs.{step_status}
use Rattle.cap_c.specs.Outputs.{OutputsBytes, OutputsMade}
use Rattle.cap_c.specs.Refusal.{filter_fault, refused}
use Rattle.cap_c.specs.declared.apply_report.ApplyReport.{ApplyReport}
use Rattle.cap_c.specs.declared.change_info.ChangeInfo.{ChangeInfo}
use Rattle.cap_c.specs.declared.fault.PlacedFault.{PlacedFault}
use Rattle.cap_c.specs.declared.status.TheConstants.{FILTER, MALFORMED, MISUSE, NOMEM, OK, REFUSED}

-- ---- Statuses and faults

-- the status of a call that has no answer
abbrev pub application_status : Fault ApplicationFault → ℕ
application_status stop.OutOfMemory = NOMEM
application_status (stop.Refused fault.Misuse) = MISUSE
application_status (stop.Refused (fault.Malformed wrong)) = MALFORMED
application_status (stop.Refused (fault.NoFilter why)) = FILTER
application_status (stop.Refused (fault.Refused why)) = REFUSED

-- the number of the change whose answer ended the application
abbrev pub change_in : Refusal → Option ℕ
change_in (Aborted at) = Some at
change_in (Misuse at) = Some at
change_in _ = None

-- the fault that is set then, or what was there before
abbrev pub application_output : Fault ApplicationFault → PlacedFault → PlacedFault
application_output (stop.Refused (fault.Malformed wrong)) old = placed wrong
application_output (stop.Refused (fault.NoFilter why)) old = filter_fault why
application_output (stop.Refused (fault.Refused why)) old = refused (change_in why) why
application_output _ old = old

module _ {X : Type 0} where
  abbrev pub done_status : Result X (Fault ApplicationFault) → ℕ
  done_status (Ok x) = OK
  done_status (Err why) = application_status why

  abbrev pub done_fault : Result X (Fault ApplicationFault) → PlacedFault → PlacedFault
  done_fault (Ok x) old = old
  done_fault (Err why) old = application_output why old

  -- the status and the fault
  pub record TellsDone (status : ℕ) (old fault : PlacedFault) (answer : Result X (Fault ApplicationFault))
      : Type 0 where
    pub status_is : status ≡ done_status answer
    pub fault_is : fault ≡ done_fault answer old

  -- What was made opens a closed handle, if there is memory for it. Where nothing was made it stays closed.
  abbrev pub OpensMade : ℕ → Option X → Result X (Fault ApplicationFault) → Type 0
  OpensMade status has (Ok x) = OpensOn x status has
  OpensMade status has (Err why) = (status ≡ application_status why) × (has ≡ None)

  -- and the fault
  pub record TellsMade (status : ℕ) (has : Option X) (old fault : PlacedFault)
      (answer : Result X (Fault ApplicationFault)) : Type 0 where
    pub opened : OpensMade status has answer
    pub fault_is : fault ≡ done_fault answer old

-- ---- The calls

-- a closed handle is opened on an application of the blob on the snapshot
abbrev pub OpensApplication : SnapshotState Global → List ℕ → List ℕ → ℕ → Option ApplicationState → PlacedFault →
    PlacedFault → Type 0
OpensApplication base blob filter status has old fault =
    (answer : Result ApplicationState (Fault ApplicationFault))
    × Begins base blob filter answer × TellsMade status has old fault answer

-- whether there is a conflict to be answered; an application that is over is misuse
abbrev pub stands_status : Option Bool → ℕ
stands_status stands = option_map_or step_status stands MISUSE

-- SQLite's numbers of the kinds of conflicts
abbrev pub kind_number : ConflictKind → ℕ
kind_number Data = 1
kind_number NotFound = 2
kind_number Conflict = 3

abbrev pub kind_output : ApplicationState → Option ℕ
kind_output app = option_map kind_number (kind_of app)

abbrev pub change_output : ApplicationState → Option ChangeInfo
change_output app = option_map (λ head. record {
  op = operation_byte head.operation;
  indirect = bit head.indirect;
  patchset = bit (is_of_patchset app);
  columns = columns_of app;
}) (head_of app)

-- the conflict is answered so; a number that is no answer is misuse
abbrev pub AnswersBy : Option Answer → ApplicationState → ApplicationState → Done → Type 0
AnswersBy (Some answer) old new result = AnswersWith answer old new result
AnswersBy None old new result = IsMisuse old new result

-- a closed handle is opened on the batch that makes what the application left
abbrev pub OpensBatch : ApplicationState → ℕ → Option (BatchState Global) → PlacedFault → PlacedFault → Type 0
OpensBatch app status has old fault = (answer : Result (BatchState Global) (Fault ApplicationFault))
    × AnswersUnlessMemory answer (batch_left app) × TellsMade status has old fault answer

abbrev pub report_in : Applied → ApplyReport
report_in made = record {
  version = made.version;
  applied = made.applied;
  conflicts = made.conflicts;
  omitted = made.omitted;
  skipped = made.skipped;
}

abbrev pub report_output : ApplicationState → Option ApplyReport
report_output app = option_map report_in (report_of app)

-- the buffer of its conflicts; a number that names no key flags is misuse, and so is a patchset
abbrev pub OutputsBufferOf : Option KeyFlags → ApplicationState → ℕ → List ℕ → List ℕ → ℕ → ℕ → Type 0
OutputsBufferOf (Some flags) app status old new old_len len =
    OutputsMade (buffer_left flags app) status old new old_len len
OutputsBufferOf None app status old new old_len len = OutputsBytes None status old new old_len len
