use Rattle.std.proofs.Common.{◌≡◌, ◌++◌, drop}
use Rattle.cap_applier.specs.Chosen.{numbers_from}
use Rattle.cap_applier.proofs.chosen.numbers_of.Given as goal

-- what was put, and the numbers of the groups that are left
abbrev pub invariant-loop-group : goal.invariant-loop-group
invariant-loop-group g l =
    l.numbers.items ++ numbers_from l.filter l.first (drop l.group-index l.groups) ≡ numbers_from l.filter 0 l.groups
