use Rattle.std.proofs.Common.{◌≡◌, ◌++◌}
use Rattle.cap_applier.specs.Chosen.{each_number}
use Rattle.cap_applier.proofs.chosen.put_numbers.Given as goal

-- what was put, and the numbers of the changes that are left
abbrev pub invariant-loop-change : goal.invariant-loop-change
invariant-loop-change g l =
    l.numbers.items ++ each_number l.number l._change-iterator ≡ l.fn.numbers.items ++ each_number l.fn.first l.fn.changes
