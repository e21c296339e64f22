-- An application that stops at each conflict (The Session Extension, "sqlite3changeset_apply").
use Rattle.std.specs.Prelude.{ℕ, ◌≤◌, Option, Some, None, Result, Ok, Err, [], length}
use Rattle.cap_value.specs.declared.refusal.Refusal.{Refusal}
use Rattle.cap_row.specs.Fields.{Fields}
use Rattle.cap_filter.specs.Rule.{Rule}
use Rattle.cap_database.specs.Tables.{Tables}
use Rattle.cap_codec.specs.declared.read.Contents.{Contents}
use Rattle.cap_codec.specs.declared.read.Contents.TheVariants.{Changes, Patches}
use Rattle.cap_apply.specs.Apply.{nothing_applied}
use Rattle.cap_apply.specs.Merged.{merged}
use Rattle.cap_apply.specs.Requested.{requested_by_change, requested_by_patch}
use Rattle.cap_apply.specs.declared.policy.Answer.{Answer}
use Rattle.cap_applier.specs.Progress.{ProgressState}
use Rattle.cap_applier.specs.Step.{answered_in, met_in, one_further}
use Rattle.cap_applier.specs.declared.row_conflict.RowConflict.{RowConflict}

-- a blob, the tables that it may change, and how far its application has come
pub record ApplierState (A : Type 0) : Type 0 where
  pub blob : Contents A
  pub filter : Option Rule
  pub progress : ProgressState A

module _ {A : Type 0} where
  -- nothing is applied yet
  abbrev pub begun_progress : Tables A → ProgressState A
  begun_progress database =
      record { applied = nothing_applied database; passed = []; group = 0; change = 0; number = 0 }

  abbrev pub begun : Tables A → Contents A → Option Rule → ApplierState A
  begun database blob filter =
      record { blob = blob; filter = filter; progress = begun_progress database }

  -- the conflict that the change that comes next meets with the row that is there after all before it
  abbrev pub blob_met : Option Rule → Contents A → ProgressState A → Option (RowConflict A)
  blob_met filter (Changes list) p = met_in requested_by_change filter list p
  blob_met filter (Patches list) p = met_in requested_by_patch filter list p

  abbrev pub met : ApplierState A → Option (RowConflict A)
  met s = blob_met s.filter s.blob s.progress

  -- The change that comes next, where its conflict, if any, is answered so. A group that is not applied is left
  -- behind.
  abbrev pub blob_answered : Answer → Option Rule → Contents A → ProgressState A
      → Result (ProgressState A) Refusal
  blob_answered answer filter (Changes list) p = answered_in requested_by_change answer filter list p
  blob_answered answer filter (Patches list) p = answered_in requested_by_patch answer filter list p

  abbrev pub with_progress : ApplierState A → Result (ProgressState A) Refusal
      → Result (ApplierState A) Refusal
  with_progress s (Ok p) = Ok (record s { progress = p })
  with_progress s (Err why) = Err why

  abbrev pub answered : Answer → ApplierState A → Result (ApplierState A) Refusal
  answered answer s = with_progress s (blob_answered answer s.filter s.blob s.progress)

  -- a row stands under the key of the conflict in place of the change
  abbrev pub merged_progress : RowConflict A → Fields A → ProgressState A → ProgressState A
  merged_progress conflict row p = one_further (record p {
    applied = merged p.number conflict.kind conflict.table conflict.key row p.applied;
  })

  abbrev pub merged_at : Option (RowConflict A) → Fields A → ApplierState A → ApplierState A
  merged_at None row s = s
  merged_at (Some conflict) row s = record s { progress = merged_progress conflict row s.progress }

  -- no change is left
  abbrev pub group_count : Contents A → ℕ
  group_count (Changes list) = length list
  group_count (Patches list) = length list

  abbrev pub IsAtEnd : ApplierState A → Type 0
  IsAtEnd s = group_count s.blob ≤ s.progress.group
