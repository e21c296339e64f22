use Rattle.std.proofs.Common.{◌≡◌, ◌++◌, drop}
use Rattle.cap_applier.specs.Chosen.{groups_from}
use Rattle.cap_applier.proofs.chosen.group_numbers.Given as goal

-- what was put, and the numbers of the groups that are left
abbrev pub invariant-loop-group : goal.invariant-loop-group
invariant-loop-group g l =
    l.numbers.items ++ groups_from l.filter l.number (drop l.group-index l.groups) ≡ groups_from l.filter 0 l.groups
