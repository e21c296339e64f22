use Rattle.std.proofs.Common.{◌≡◌, length}
use Rattle.cap_group.specs.Grown.{before}
use Rattle.cap_group.proofs.tables.go_back.Given as goal

abbrev pub invariant-loop-index : goal.invariant-loop-index
invariant-loop-index g l = before l.steps.items l.tables.items ≡ before l.fn.steps.items l.fn.tables.items

abbrev pub decreases-loop-index : goal.decreases-loop-index
decreases-loop-index g l = length l.steps.items
