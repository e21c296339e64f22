-- A row that the caller makes of a change and the row that it met, in place of the change.
use Rattle.std.specs.Prelude.{ℕ, Option, Some, List, ◌++◌}
use Rattle.cap_row.specs.Fields.{Fields}
use Rattle.cap_database.specs.Keyed.{row_set}
use Rattle.cap_database.specs.Operation.{Changed, changes_to}
use Rattle.cap_database.specs.Read.{row_at}
use Rattle.cap_database.specs.declared.cause.Cause.TheVariants.{Direct}
use Rattle.cap_apply.specs.Applied.{AppliedState}
use Rattle.cap_apply.specs.Apply.{left_out, row_comes, row_goes}
use Rattle.cap_apply.specs.Report.{with_conflict}
use Rattle.cap_apply.specs.declared.conflict.ConflictKind.{ConflictKind}
use Rattle.cap_apply.specs.declared.policy.Answer.{Answer}
use Rattle.cap_apply.specs.declared.policy.Answer.TheVariants.{Omit}

module _ {A : Type 0} where
  -- a conflict is reported with its answer
  abbrev pub answered_with : ℕ → ConflictKind → Answer → AppliedState A → AppliedState A
  answered_with number kind answer state = record state {
    report = with_conflict (record { change = number; kind = kind; answer = answer }) state.report;
  }

  -- the changes of these rows are added
  abbrev pub with_changes : List ℕ → List (Changed A) → AppliedState A → AppliedState A
  with_changes name rows state = record state { changes = state.changes ++ changes_to name Direct rows }

  -- this row stands under the key, or none: one change for the row that was there, and one for this one
  abbrev pub row_replaced : List ℕ → Fields A → Option (Fields A) → AppliedState A → AppliedState A
  row_replaced name key after state =
      with_changes name (row_goes key (row_at state.database name key) ++ row_comes key after)
      (record state { database = row_set state.database name key after })

  -- the row stands under the key in place of the change, which is omitted
  abbrev pub merged : ℕ → ConflictKind → List ℕ → Fields A → Fields A → AppliedState A → AppliedState A
  merged number kind name key row state =
      left_out number (answered_with number kind Omit (row_replaced name key (Some row) state))
