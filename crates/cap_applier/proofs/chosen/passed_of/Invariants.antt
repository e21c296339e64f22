use Rattle.std.proofs.Common.{◌≡◌, ◌+◌, drop}
use Rattle.cap_applier.specs.Chosen.{passed_changes, passed_groups}
use Rattle.cap_applier.proofs.chosen.passed_of.Given as goal

-- what was passed over, and what of the groups that are left is
abbrev pub invariant-loop-group : goal.invariant-loop-group
invariant-loop-group g l =
    (l.passed.groups + passed_groups l.filter (drop l.group-index l.groups) ≡ passed_groups l.filter l.groups)
    × (l.passed.changes + passed_changes l.filter (drop l.group-index l.groups) ≡ passed_changes l.filter l.groups)
