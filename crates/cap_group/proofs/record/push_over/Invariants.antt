use Rattle.std.proofs.Common.{◌≡◌, ◌++◌, length}
use Rattle.cap_changes.specs.Field.{record_bytes}
use Rattle.cap_group.proofs.record.push_over.Given as goal

-- what was put, and the fields that are left
abbrev pub invariant-loop-field : goal.invariant-loop-field
invariant-loop-field g l = l.out.items ++ record_bytes l.fields ≡ l.fn.out.items ++ record_bytes l.fn.over

abbrev pub decreases-loop-field : goal.decreases-loop-field
decreases-loop-field g l = length l.fields
