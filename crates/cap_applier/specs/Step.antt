-- One step of an application: the conflict that the change that comes next meets, and what an answer leaves.
use Rattle.std.specs.Prelude.{ℕ, ◌+◌, ◌-◌, Bool, true, false, Option, Some, None, Result, Ok, Err, List, []}
use Rattle.std.specs.Prelude.{◌∷◌, ◌++◌, is_some, length, slice_get}
use Rattle.cap_value.specs.declared.refusal.Refusal.{Refusal}
use Rattle.cap_row.specs.Fields.{Fields}
use Rattle.cap_filter.specs.Accepts.{accepts}
use Rattle.cap_filter.specs.Rule.{Rule}
use Rattle.cap_database.specs.Read.{row_at}
use Rattle.cap_database.specs.Tables.{Tables}
use Rattle.cap_changes.specs.Entries.{TableEntries}
use Rattle.cap_apply.specs.Applied.{AppliedState}
use Rattle.cap_apply.specs.Apply.{change_applied, skipped}
use Rattle.cap_apply.specs.Policy.{always}
use Rattle.cap_apply.specs.Requested.{Requested}
use Rattle.cap_apply.specs.Row.{conflict_of, key_record_of, key_values}
use Rattle.cap_apply.specs.Target.{target}
use Rattle.cap_apply.specs.declared.conflict.ConflictKind.{ConflictKind}
use Rattle.cap_apply.specs.declared.policy.Answer.{Answer}
use Rattle.cap_applier.specs.Progress.{ProgressState}
use Rattle.cap_applier.specs.declared.row_conflict.RowConflict.{RowConflict}

-- whether a filter accepts a table; without a filter each table is accepted
abbrev pub accepted : Option Rule → List ℕ → Bool
accepted None name = true
accepted (Some rule) name = accepts rule name

module _ {A : Type 0} where
  -- ---- behind a group

  -- behind the group, which has so many changes
  abbrev pub behind : ℕ → ProgressState A → ProgressState A
  behind count p =
      record p { group = p.group + 1; change = 0; number = p.number + (count - p.change) }

  -- the filter does not accept its table
  abbrev pub passed_over : ℕ → ProgressState A → ProgressState A
  passed_over count p = behind count (record p { passed = p.passed ++ p.group ∷ [] })

  -- the database has no table for it
  abbrev pub skipped_over : ℕ → ProgressState A → ProgressState A
  skipped_over count p = behind count (record p { applied = skipped p.group p.applied })

  -- behind one change
  abbrev pub one_further : ProgressState A → ProgressState A
  one_further p = record p { change = p.change + 1; number = p.number + 1 }

  abbrev pub left_by : ProgressState A → Result (AppliedState A) Refusal → Result (ProgressState A) Refusal
  left_by p (Ok left) = Ok (one_further (record p { applied = left }))
  left_by p (Err why) = Err why

  -- ---- the conflict of a change

  abbrev pub met_with : List ℕ → Fields A → Option (Fields A) → Option ConflictKind → Option (RowConflict A)
  met_with table key row None = None
  met_with table key row (Some kind) = Some (record { kind = kind; table = table; key = key; row = row })

  abbrev pub met_under : Tables A → List ℕ → List Bool → Requested A → Fields A → Option (RowConflict A)
  met_under database table flags asked key =
      met_with table key (row_at database table key)
      (conflict_of flags asked.old asked.patch (row_at database table key))

  -- with the row that the database has under its key
  abbrev pub met_by : Tables A → List ℕ → List Bool → Requested A → Option (RowConflict A)
  met_by database table flags asked =
      met_under database table flags asked (key_values flags (key_record_of asked.patch))

  module _ {X : Type 0} (requested : List Bool → X → Requested A) where
    -- ---- what an answer leaves, where the change that comes next meets a conflict

    -- a change of a table that is there
    abbrev pub answered_change : Answer → TableEntries X → Option X → ProgressState A
        → Result (ProgressState A) Refusal
    answered_change answer group None p = Ok (behind (length group.changes) p)
    answered_change answer group (Some change) p =
        left_by p (change_applied (always answer) p.number group.table group.schema
        (requested group.schema change) p.applied)

    -- whether the database has a table for the group
    abbrev pub answered_target : Answer → TableEntries X → Bool → ProgressState A
        → Result (ProgressState A) Refusal
    answered_target answer group false p = Ok (skipped_over (length group.changes) p)
    answered_target answer group true p = answered_change answer group (slice_get group.changes p.change) p

    -- whether the filter accepts its table
    abbrev pub answered_accepted : Answer → TableEntries X → Bool → ProgressState A
        → Result (ProgressState A) Refusal
    answered_accepted answer group false p = Ok (passed_over (length group.changes) p)
    answered_accepted answer group true p =
        answered_target answer group (is_some (target p.applied.database group.table group.schema)) p

    -- the group that comes next, if one is left
    abbrev pub answered_group : Answer → Option Rule → Option (TableEntries X) → ProgressState A
        → Result (ProgressState A) Refusal
    answered_group answer filter None p = Ok p
    answered_group answer filter (Some group) p =
        answered_accepted answer group (accepted filter group.table) p

    abbrev pub answered_in : Answer → Option Rule → List (TableEntries X) → ProgressState A
        → Result (ProgressState A) Refusal
    answered_in answer filter groups p = answered_group answer filter (slice_get groups p.group) p

    -- ---- the conflict that the change that comes next meets

    abbrev pub met_change : TableEntries X → Option X → ProgressState A → Option (RowConflict A)
    met_change group None p = None
    met_change group (Some change) p =
        met_by p.applied.database group.table group.schema (requested group.schema change)

    abbrev pub met_target : TableEntries X → Bool → ProgressState A → Option (RowConflict A)
    met_target group false p = None
    met_target group true p = met_change group (slice_get group.changes p.change) p

    abbrev pub met_accepted : TableEntries X → Bool → ProgressState A → Option (RowConflict A)
    met_accepted group false p = None
    met_accepted group true p =
        met_target group (is_some (target p.applied.database group.table group.schema)) p

    abbrev pub met_group : Option Rule → Option (TableEntries X) → ProgressState A → Option (RowConflict A)
    met_group filter None p = None
    met_group filter (Some group) p = met_accepted group (accepted filter group.table) p

    abbrev pub met_in : Option Rule → List (TableEntries X) → ProgressState A → Option (RowConflict A)
    met_in filter groups p = met_group filter (slice_get groups p.group) p
