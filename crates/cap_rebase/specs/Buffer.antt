-- The buffer of an application: the changes of a changeset that met a conflict, each with its answer (The
-- Session Extension, "sqlite3changeset_apply_v2").
use Rattle.std.specs.Prelude.{ℕ, ◌+◌, ◌-◌, nat_lt, List, [], ◌∷◌, Option, Some, None, true, false}
use Rattle.std.specs.Prelude.{length, filter, filter_map, slice_get, if◌then◌else◌}
use Rattle.cap_changes.specs.Group.{TableChanges}
use Rattle.cap_changes.specs.declared.row_change.RowChange.{RowChange}
use Rattle.cap_codec.specs.Writable.{has_some}
use Rattle.cap_apply.specs.declared.conflict.Conflict.{Conflict}
use Rattle.cap_apply.specs.declared.policy.Answer.{Answer}
use Rattle.cap_apply.specs.declared.policy.Answer.TheVariants.{Omit, Replace, Abort}
use Rattle.cap_rebase.specs.Flag.{flagged}

module _ {A : Type 0} where
  -- the change with the answer in the place of its indirect flag. ABORT leaves no application.
  abbrev pub answered : Answer → RowChange A → Option (RowChange A)
  answered Omit change = Some (flagged false change)
  answered Replace change = Some (flagged true change)
  answered Abort change = None

  abbrev pub answered_at : Answer → Option (RowChange A) → Option (RowChange A)
  answered_at answer None = None
  answered_at answer (Some change) = answered answer change

  -- the change of a group that met the conflict, where the first change of the group has this number
  abbrev pub met : ℕ → List (RowChange A) → Conflict → Option (RowChange A)
  met first changes conflict =
      if nat_lt conflict.change first then None
      else answered_at conflict.answer (slice_get changes (conflict.change - first))

  -- the changes of a group that met a conflict, in the order of the conflicts
  abbrev pub group_met : ℕ → List Conflict → TableChanges A → TableChanges A
  group_met first conflicts group =
      record group { changes = filter_map (met first group.changes) conflicts }

  -- the groups, of which the first begins with this number
  abbrev pub groups_met : ℕ → List Conflict → List (TableChanges A) → List (TableChanges A)
  groups_met first conflicts [] = []
  groups_met first conflicts (group ∷ groups) =
      group_met first conflicts group ∷ groups_met (first + length group.changes) conflicts groups

  -- a group without a conflict is left out
  abbrev pub buffer_of : List (TableChanges A) → List Conflict → List (TableChanges A)
  buffer_of groups conflicts = filter (λ group. has_some group.changes) (groups_met 0 conflicts groups)
