-- The report of an applied blob.
use Rattle.std.specs.Prelude.{ℕ, Option, Some, None, List, [], ◌∷◌, ◌++◌}
use Rattle.cap_apply.specs.Policy.{answer_to}
use Rattle.cap_apply.specs.declared.conflict.Conflict.{Conflict}
use Rattle.cap_apply.specs.declared.conflict.ConflictKind.{ConflictKind}
use Rattle.cap_apply.specs.declared.policy.Policy.{Policy}

-- the number of applied changes, the conflicts, the numbers of the omitted changes and of the skipped groups,
-- each in order and counted from 0 over the whole blob
pub record ReportState : Type 0 where
  pub applied : ℕ
  pub conflicts : List Conflict
  pub omitted : List ℕ
  pub skipped : List ℕ

abbrev pub with_conflict : Conflict → ReportState → ReportState
with_conflict conflict report = record report { conflicts = report.conflicts ++ conflict ∷ [] }

abbrev pub with_omitted : ℕ → ReportState → ReportState
with_omitted number report = record report { omitted = report.omitted ++ number ∷ [] }

abbrev pub with_skipped : ℕ → ReportState → ReportState
with_skipped place report = record report { skipped = report.skipped ++ place ∷ [] }

-- each conflict is reported with its answer
abbrev pub noted_in : Policy → ℕ → Option ConflictKind → ReportState → ReportState
noted_in policy number None report = report
noted_in policy number (Some kind) report =
    with_conflict (record { change = number; kind = kind; answer = answer_to policy kind }) report
