use Rattle.std.proofs.Common.{◌≡◌, length}
use Rattle.cap_group.specs.ChangeKey.{key_values}
use Rattle.cap_group.proofs.key_ref.KeyRef.next_value.Given as goal

-- the fields before are outside the key
abbrev pub invariant-loop-self : goal.invariant-loop-self
invariant-loop-self g l = key_values l.self-inside.flags.now l.self-inside.fields ≡ l.fn.self

abbrev pub decreases-loop-self : goal.decreases-loop-self
decreases-loop-self g l = length l.self-inside.flags.now
