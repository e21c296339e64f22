use Rattle.std.proofs.Common.{◌≡◌, drop}
use Rattle.cap_rebase.specs.Rebaser.{refused, refused_from}
use Rattle.cap_rebase.proofs.rebaser.refused.Given as goal

-- no group is refused so far
abbrev pub invariant-loop-place : goal.invariant-loop-place
invariant-loop-place g l = refused_from l.place l.buffers (drop l.place l.groups) ≡ refused l.buffers l.groups
