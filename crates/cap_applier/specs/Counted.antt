-- What one step adds to the report.
use Rattle.std.specs.Prelude.{◌≡◌, ◌+◌, ◌⊎◌, [], ◌∷◌, ◌++◌}
use Rattle.cap_applier.specs.Progress.{ProgressState}

module _ {A : Type 0} where
  -- the change with the number counts as applied
  pub record CountsApplied (before after : ProgressState A) : Type 0 where
    pub applied : after.applied.report.applied ≡ before.applied.report.applied + 1
    pub omitted : after.applied.report.omitted ≡ before.applied.report.omitted

  -- the change with the number is omitted
  pub record CountsOmitted (before after : ProgressState A) : Type 0 where
    pub applied : after.applied.report.applied ≡ before.applied.report.applied
    pub omitted : after.applied.report.omitted ≡ before.applied.report.omitted ++ before.number ∷ []

  -- one change is applied or omitted, and no group is skipped or passed over
  pub record CountsChange (before after : ProgressState A) : Type 0 where
    pub number : after.number ≡ before.number + 1
    pub place : (after.group ≡ before.group) × (after.change ≡ before.change + 1)
    pub counts : CountsApplied before after ⊎ CountsOmitted before after
    pub skipped : after.applied.report.skipped ≡ before.applied.report.skipped
    pub passed : after.passed ≡ before.passed

  -- the group is skipped or passed over, or all of its changes are counted
  abbrev pub CountsGroup : ProgressState A → ProgressState A → Type 0
  CountsGroup before after =
      ((after.applied.report.skipped ≡ before.applied.report.skipped ++ before.group ∷ [])
      × (after.passed ≡ before.passed))
      ⊎ ((after.applied.report.skipped ≡ before.applied.report.skipped)
      × (after.passed ≡ before.passed ++ before.group ∷ []))
      ⊎ ((after.applied.report.skipped ≡ before.applied.report.skipped)
      × (after.passed ≡ before.passed))

  -- one group is left behind, and no change is applied or omitted
  pub record LeavesGroup (before after : ProgressState A) : Type 0 where
    pub place : (after.group ≡ before.group + 1) × (after.change ≡ 0)
    pub applied : after.applied.report.applied ≡ before.applied.report.applied
    pub omitted : after.applied.report.omitted ≡ before.applied.report.omitted
    pub counts : CountsGroup before after

  -- at the end nothing changes; else a step counts one change, or leaves one group behind
  abbrev pub CountsOne : ProgressState A → ProgressState A → Type 0
  CountsOne before after = (after ≡ before) ⊎ CountsChange before after ⊎ LeavesGroup before after
