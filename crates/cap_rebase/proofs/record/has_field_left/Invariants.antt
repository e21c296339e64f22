use Rattle.std.proofs.Common.{◌≡◌, length, is_some}
use Rattle.std.specs.List.{list_any}
use Rattle.cap_rebase.specs.Rebase.{new_left}
use Rattle.cap_rebase.proofs.record.has_field_left.Given as goal

-- no field is left so far
abbrev pub invariant-loop-field : goal.invariant-loop-field
invariant-loop-field g l = list_any is_some (new_left l.local l.remote) ≡ list_any is_some (new_left l.fn.local l.fn.remote)

abbrev pub decreases-loop-field : goal.decreases-loop-field
decreases-loop-field g l = length l.local
