use Rattle.cap_codec.proofs.Common.{ℕ, length, Lacks}
use Rattle.cap_codec.proofs.Looking.{FieldsLack}
use Rattle.cap_codec.proofs.missing.missing.Given as goal

-- what the rest lacks the change lacks
abbrev pub invariant-loop-behind : goal.invariant-loop-behind
invariant-loop-behind g l = (n : ℕ) → FieldsLack l.total n l.rest → Lacks g.row.A.Denot l.total l.bytes n

abbrev pub decreases-loop-behind : goal.decreases-loop-behind
decreases-loop-behind g l = length l.rest
