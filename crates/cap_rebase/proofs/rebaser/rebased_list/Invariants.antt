use Rattle.std.proofs.Common.{◌≡◌, take}
use Rattle.cap_rebase.specs.Rebaser.{rebased_list}
use Rattle.cap_rebase.proofs.rebaser.rebased_list.Given as goal

abbrev pub invariant-loop-group : goal.invariant-loop-group
invariant-loop-group g l = l.list ≡ rebased_list l.buffers (take l.group-index l.groups)
