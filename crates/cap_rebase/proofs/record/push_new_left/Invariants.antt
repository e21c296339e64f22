use Rattle.std.proofs.Common.{◌≡◌, ◌++◌, length}
use Rattle.cap_changes.specs.Field.{record_bytes}
use Rattle.cap_rebase.specs.Rebase.{new_left}
use Rattle.cap_rebase.proofs.record.push_new_left.Given as goal

-- what was put, and the fields that are left
abbrev pub invariant-loop-field : goal.invariant-loop-field
invariant-loop-field g l = l.out.items ++ record_bytes (new_left l.local l.remote) ≡ l.fn.out.items ++ record_bytes (new_left l.fn.local l.fn.remote)

abbrev pub decreases-loop-field : goal.decreases-loop-field
decreases-loop-field g l = length l.local
