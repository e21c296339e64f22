-- The changes of a blob, counted.
use Rattle.std.specs.Prelude.{ℕ, ◌+◌, ◌<◌, ◌≤◌, ◌⊎◌, List, [], ◌∷◌, get_or, length, map, sum, sum_by, take}
use Rattle.std.specs.List.{AllByRecursion}
use Rattle.cap_codec.specs.declared.read.Contents.{Contents}
use Rattle.cap_codec.specs.declared.read.Contents.TheVariants.{Changes, Patches}
use Rattle.cap_apply.specs.Report.{ReportState}

-- numbers that rise, from the lower bound on, and stay below the upper one
abbrev pub RiseWithin : ℕ → ℕ → List ℕ → Type 0
RiseWithin low high [] = low ≤ high
RiseWithin low high (number ∷ numbers) = (low ≤ number) × RiseWithin (number + 1) high numbers

module _ {A : Type 0} where
  -- the number of changes in each group
  abbrev pub group_sizes : Contents A → List ℕ
  group_sizes (Changes list) = map (λ group. length group.changes) list
  group_sizes (Patches list) = map (λ group. length group.changes) list

  -- the number of changes in the blob
  abbrev pub change_count : Contents A → ℕ
  change_count blob = sum (group_sizes blob)

  -- the number of changes in the groups with these numbers
  abbrev pub changes_in_groups : Contents A → List ℕ → ℕ
  changes_in_groups blob places = sum_by (λ place. get_or (group_sizes blob) place 0) places

  -- the number of the first change in the group at a place
  abbrev pub first_of : Contents A → ℕ → ℕ
  first_of blob place = sum (take place (group_sizes blob))

  -- a change before the group at the place, or behind it
  abbrev pub IsOutside : Contents A → ℕ → ℕ → Type 0
  IsOutside blob place number = (number < first_of blob place) ⊎ (first_of blob (place + 1) ≤ number)

  -- no omitted change and no skipped group comes twice, each is of the blob, and no omitted change is in a
  -- skipped group
  pub record AreReportedOnce (blob : Contents A) (report : ReportState) : Type 0 where
    pub omitted : RiseWithin 0 (change_count blob) report.omitted
    pub skipped : RiseWithin 0 (length (group_sizes blob)) report.skipped
    pub apart : AllByRecursion
        (λ place. AllByRecursion (λ number. IsOutside blob place number) report.omitted) report.skipped
