use Rattle.std.proofs.Common.{◌≡◌, length}
use Rattle.cap_row.specs.Key.{fields_cmp}
use Rattle.cap_group.proofs.key_ref.KeyRef.order.Given as goal

-- the values before are the same
abbrev pub invariant-loop-value : goal.invariant-loop-value
invariant-loop-value g l = fields_cmp l.left l.right ≡ fields_cmp l.fn.self l.fn.other

abbrev pub decreases-loop-value : goal.decreases-loop-value
decreases-loop-value g l = length l.left
