-- The part of a blob that is of the tables that a filter accepts.
use Rattle.std.specs.Prelude.{ℕ, ◌+◌, not, List, [], ◌∷◌, ◌++◌, count_by, filter, length, map, slice_index_or}
use Rattle.std.specs.Prelude.{sum_by, if◌then◌else◌}
use Rattle.cap_changes.specs.Entries.{TableEntries}
use Rattle.cap_codec.specs.declared.read.Contents.{Contents}
use Rattle.cap_codec.specs.declared.read.Contents.TheVariants.{Changes, Patches}
use Rattle.cap_apply.specs.Report.{ReportState}
use Rattle.cap_apply.specs.declared.conflict.Conflict.{Conflict}
use Rattle.cap_filter.specs.Accepts.{accepts}
use Rattle.cap_filter.specs.Rule.{Rule}
use Rattle.cap_applier.specs.Numbering.{NumberingState}
use Rattle.cap_applier.specs.declared.passed.Passed.{Passed}

module _ {X : Type 0} (rule : Rule) where
  -- the groups of the tables that the filter accepts, in their order
  abbrev pub accepted_groups : List (TableEntries X) → List (TableEntries X)
  accepted_groups groups = filter (λ group. accepts rule group.table) groups

  -- how many groups are passed over, since the filter does not accept their tables, and how many changes
  -- these have
  abbrev pub passed_groups : List (TableEntries X) → ℕ
  passed_groups groups = count_by (λ group. not (accepts rule group.table)) groups

  abbrev pub passed_changes : List (TableEntries X) → ℕ
  passed_changes groups =
      sum_by (λ group. if accepts rule group.table then 0 else length group.changes) groups

  abbrev pub passed_of : List (TableEntries X) → Passed
  passed_of groups = record { groups = passed_groups groups; changes = passed_changes groups }

-- a number for each, from the first on
abbrev pub each_number : {X : Type 0} → ℕ → List X → List ℕ
each_number first [] = []
each_number first (x ∷ xs) = first ∷ each_number (first + 1) xs

module _ {X : Type 0} (rule : Rule) where
  abbrev pub accepted_numbers : ℕ → TableEntries X → List ℕ
  accepted_numbers first group = if accepts rule group.table then each_number first group.changes else []

  -- the numbers of the changes of accepted groups, where the changes of all groups are counted
  abbrev pub numbers_from : ℕ → List (TableEntries X) → List ℕ
  numbers_from first [] = []
  numbers_from first (group ∷ groups) =
      accepted_numbers first group ++ numbers_from (first + length group.changes) groups

  abbrev pub own_number : ℕ → TableEntries X → List ℕ
  own_number number group = if accepts rule group.table then number ∷ [] else []

  -- the numbers of accepted groups, where all groups are counted
  abbrev pub groups_from : ℕ → List (TableEntries X) → List ℕ
  groups_from number [] = []
  groups_from number (group ∷ groups) = own_number number group ++ groups_from (number + 1) groups

  abbrev pub numbering_of : List (TableEntries X) → NumberingState
  numbering_of groups = record {
    changes = numbers_from 0 groups;
    groups = groups_from 0 groups;
    passed = passed_of rule groups;
  }

-- The number in the whole blob of what has this number in the part, where these are the numbers of the part.
abbrev pub number_in_blob : List ℕ → ℕ → ℕ
number_in_blob numbers at = slice_index_or numbers at at

abbrev pub conflict_in_blob : List ℕ → Conflict → Conflict
conflict_in_blob numbers conflict = record conflict { change = number_in_blob numbers conflict.change }

-- the report of the part, with the numbers in the whole blob
abbrev pub in_blob : NumberingState → ReportState → ReportState
in_blob numbering report = record {
  applied = report.applied;
  conflicts = map (conflict_in_blob numbering.changes) report.conflicts;
  omitted = map (number_in_blob numbering.changes) report.omitted;
  skipped = map (number_in_blob numbering.groups) report.skipped;
}

-- ---- the same of a blob

module _ {A : Type 0} where
  abbrev pub accepted_in : Rule → Contents A → Contents A
  accepted_in rule (Changes list) = Changes (accepted_groups rule list)
  accepted_in rule (Patches list) = Patches (accepted_groups rule list)

  abbrev pub numbering_in : Rule → Contents A → NumberingState
  numbering_in rule (Changes list) = numbering_of rule list
  numbering_in rule (Patches list) = numbering_of rule list
