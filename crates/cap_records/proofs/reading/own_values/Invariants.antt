use Rattle.std.proofs.Common.{◌≡◌, ◌++◌, length}
use Rattle.cap_records.proofs.reading.own_values.Given as goal

abbrev pub invariant-loop-value : goal.invariant-loop-value
invariant-loop-value l = l.own.items ++ l.rest ≡ l.fn.values

abbrev pub decreases-loop-value : goal.decreases-loop-value
decreases-loop-value l = length l.rest
