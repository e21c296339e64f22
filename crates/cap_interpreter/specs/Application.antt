-- An application that stops at each conflict, from one line to the next.
use Rattle.std.specs.Prelude.{ℕ, zero, suc, ◌+◌, Option, Some, None, Result, Ok, Err, List, [], ◌∷◌, length}
use Rattle.std.specs.Option.{option_map}
use Rattle.cap_value.specs.declared.refusal.Refusal.{Refusal}
use Rattle.cap_row.specs.Fields.{Fields}
use Rattle.cap_filter.specs.Rule.{Rule}
use Rattle.cap_changes.specs.Entries.{TableEntries}
use Rattle.cap_codec.specs.declared.read.Contents.{Contents}
use Rattle.cap_codec.specs.declared.read.Contents.TheVariants.{Changes, Patches}
use Rattle.cap_database.specs.Snapshot.{SnapshotState}
use Rattle.cap_txn.specs.Transaction.{TxnState}
use Rattle.cap_apply.specs.declared.policy.Answer.{Answer}
use Rattle.cap_apply.specs.declared.policy.Answer.TheVariants.{Omit}
use Rattle.cap_applier.specs.Applier.{ApplierState, answered, begun, merged_at, met}
use Rattle.cap_applier.specs.Transaction.{transaction_of}
use Rattle.cap_applier.specs.declared.row_conflict.RowConflict.{RowConflict}

-- the snapshot with which it began, and where it stands
pub record ApplicationState (A : Type 0) : Type 0 where
  pub base : SnapshotState A
  pub applier : ApplierState A

-- one step for each change, and one to leave each group
abbrev pub most_of : {X : Type 0} → List (TableEntries X) → ℕ
most_of [] = 0
most_of (group ∷ groups) = (length group.changes + 1) + most_of groups

module _ {A : Type 0} where
  -- ---- to the next conflict

  abbrev pub one_on : Result (ApplierState A) Refusal → ApplierState A → ApplierState A
  one_on (Ok next) s = next
  one_on (Err why) s = s

  -- one step, where no conflict is met
  abbrev pub step_from : Option (RowConflict A) → ApplierState A → ApplierState A
  step_from None s = one_on (answered Omit s) s
  step_from (Some conflict) s = s

  abbrev pub step : ApplierState A → ApplierState A
  step s = step_from (met s) s

  abbrev pub steps : ℕ → ApplierState A → ApplierState A
  steps zero s = s
  steps (suc count) s = step (steps count s)

  -- no application has more steps
  abbrev pub most_steps : Contents A → ℕ
  most_steps (Changes list) = most_of list
  most_steps (Patches list) = most_of list

  -- the first conflict from here on, or the end
  unfoldable pub stop_from : ApplierState A → ApplierState A
  stop_from s = steps (most_steps s.blob) s

  -- ---- what lines make of it

  -- it has begun on the snapshot, and stands at the first conflict
  abbrev pub opened : SnapshotState A → Contents A → Option Rule → ApplicationState A
  opened base blob filter = record { base = base; applier = stop_from (begun base.database blob filter) }

  abbrev pub stopped : Result (ApplierState A) Refusal → Result (ApplierState A) Refusal
  stopped (Ok s) = Ok (stop_from s)
  stopped (Err why) = Err why

  abbrev pub from_answered : ApplicationState A → Result (ApplierState A) Refusal
      → Result (ApplicationState A) Refusal
  from_answered app (Ok s) = Ok (record app { applier = s })
  from_answered app (Err why) = Err why

  -- the conflict is answered so, and it stands at the next one
  abbrev pub answered_from : Answer → ApplicationState A → Result (ApplicationState A) Refusal
  answered_from answer app = from_answered app (stopped (answered answer app.applier))

  -- the row is put in place of the change, and it stands at the next conflict
  abbrev pub put_in : Fields A → ApplicationState A → ApplicationState A
  put_in row app =
      record app { applier = stop_from (merged_at (met app.applier) row app.applier) }

  -- the transaction that makes what it leaves
  abbrev pub transaction_left : ApplicationState A → Result (TxnState A) Refusal
  transaction_left app = transaction_of app.base app.applier

  -- how many groups it passed over, where it has a filter
  abbrev pub passed_in : ApplierState A → Option ℕ
  passed_in s = option_map (λ filter. length s.progress.passed) s.filter
