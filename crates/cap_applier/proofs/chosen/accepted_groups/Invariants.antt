use Rattle.std.proofs.Common.{◌≡◌, ◌++◌, drop}
use Rattle.cap_applier.specs.Chosen.{accepted_groups}
use Rattle.cap_applier.proofs.chosen.accepted_groups.Given as goal

-- what was put, and what the groups that are left have
abbrev pub invariant-loop-group : goal.invariant-loop-group
invariant-loop-group g l = l.list ++ accepted_groups l.filter (drop l.group-index l.groups) ≡ accepted_groups l.filter l.groups
