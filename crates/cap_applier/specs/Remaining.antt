-- What a policy makes of the changes that are left.
use Rattle.std.specs.Prelude.{◌≡◌, ℕ, true, Option, Result, List, [], ◌∷◌, drop}
use Rattle.cap_value.specs.declared.refusal.Refusal.{Refusal}
use Rattle.cap_filter.specs.Rule.{Rule}
use Rattle.cap_changes.specs.Entries.{TableEntries}
use Rattle.cap_apply.specs.Applied.{AppliedState}
use Rattle.cap_apply.specs.Apply.{groups_applied}
use Rattle.cap_apply.specs.Requested.{Requested, requested_of}
use Rattle.cap_apply.specs.declared.policy.Policy.{Policy}
use Rattle.cap_applier.specs.Applier.{ApplierState}
use Rattle.cap_applier.specs.Progress.{ProgressState}
use Rattle.cap_applier.specs.Step.{accepted}

-- the groups, and of the first one the changes from this place on
abbrev pub from_change : {X : Type 0} → ℕ → List (TableEntries X) → List (TableEntries X)
from_change change [] = []
from_change change (group ∷ groups) = record group { changes = drop change group.changes } ∷ groups

-- the filter, if any, accepts every table
abbrev pub AcceptsAll : Option Rule → Type 0
AcceptsAll filter = (name : List ℕ) → accepted filter name ≡ true

module _ {A : Type 0} where
  abbrev pub remaining_in : Policy → List (TableEntries (Requested A)) → ProgressState A
      → Result (AppliedState A) Refusal
  remaining_in policy groups p =
      groups_applied policy p.group p.number (from_change p.change (drop p.group groups)) p.applied

  -- what the application under the policy leaves of the changes that are left, as `apply` has it
  abbrev pub remaining : Policy → ApplierState A → Result (AppliedState A) Refusal
  remaining policy s = remaining_in policy (requested_of s.blob) s.progress
