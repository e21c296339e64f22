-- The effect of a command on the tables, or why it is refused.
use Rattle.std.specs.Prelude.{ℕ, Option, Some, None, Result, Ok, Err, List, []}
use Rattle.cap_value.specs.declared.refusal.Refusal.{Refusal}
use Rattle.cap_value.specs.declared.refusal.Refusal.TheVariants.{Aborted, Misuse}
use Rattle.cap_database.specs.Snapshot.{SnapshotState}
use Rattle.cap_database.specs.Operation.{run}
use Rattle.cap_database.specs.Outcome.{OutcomeState}
use Rattle.cap_database.specs.Tables.{Tables, create}
use Rattle.cap_database.specs.declared.change.Change.{Change}
use Rattle.cap_database.specs.declared.op.Op.{Op}
use Rattle.cap_database.specs.declared.refused_at.RefusedAt.{RefusedAt}
use Rattle.cap_txn.specs.Stale.{stale}
use Rattle.cap_apply.specs.Applied.{AppliedState}
use Rattle.cap_apply.specs.Apply.{apply}
use Rattle.cap_apply.specs.Report.{ReportState}
use Rattle.cap_core.specs.declared.command.Command.{Command}
use Rattle.cap_core.specs.declared.command.Command.TheVariants.{CreateTable, Commit, Apply}

-- why a command is refused, with the index of the refused operation or change where it is one of several
abbrev pub Refused : Type 0
Refused = Option ℕ × Refusal

-- The tables after a command that writes, the changes to their rows, in order, and, where a blob was applied,
-- what became of its changes.
pub record Effect (A : Type 0) : Type 0 where
  pub database : Tables A
  pub changes : List (Change A)
  pub report : Option ReportState

-- the change of a blob at which its application ended
abbrev pub change_refused : Refusal → Option ℕ
change_refused (Aborted at) = Some at
change_refused (Misuse at) = Some at
change_refused _ = None

module _ {A : Type 0} where
  abbrev pub no_effect : Tables A → Effect A
  no_effect tables = record { database = tables; changes = []; report = None }

  -- a new table changes no row
  abbrev pub created : Result (Tables A) Refusal → Result (Effect A) Refused
  created (Ok tables) = Ok (no_effect tables)
  created (Err why) = Err (None, why)

  abbrev pub made : Result (OutcomeState A) RefusedAt → Result (Effect A) Refused
  made (Ok outcome) = Ok (record { database = outcome.database; changes = outcome.changes; report = None })
  made (Err refused) = Err (Some refused.at, refused.why)

  abbrev pub commit_unless : Option Refusal → Tables A → List (Op A) → Result (Effect A) Refused
  commit_unless (Some why) tables ops = Err (None, why)
  commit_unless None tables ops = made (run tables ops)

  abbrev pub applied : Result (AppliedState A) Refusal → Result (Effect A) Refused
  applied (Ok state) =
      Ok (record { database = state.database; changes = state.changes; report = Some state.report })
  applied (Err why) = Err (change_refused why, why)

  -- A command that writes nothing leaves the tables as they are.
  abbrev pub outcome : SnapshotState A → Command A → Result (Effect A) Refused
  outcome now (CreateTable name schema) = created (create now.database name schema)
  outcome now (Commit batch) = commit_unless (stale batch.base batch.reads now) now.database batch.ops
  outcome now (Apply blob policy quiet) = applied (apply now.database blob policy)
  outcome now _ = Ok (no_effect now.database)
