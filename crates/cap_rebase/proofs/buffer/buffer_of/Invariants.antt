use Rattle.std.proofs.Common.{◌≡◌, ◌++◌, drop}
use Rattle.std.specs.Prelude.{filter}
use Rattle.cap_codec.specs.Writable.{has_some}
use Rattle.cap_rebase.specs.Buffer.{buffer_of, groups_met}
use Rattle.cap_rebase.proofs.buffer.buffer_of.Given as goal

-- what was put, and what the groups that are left have
abbrev pub invariant-loop-group : goal.invariant-loop-group
invariant-loop-group g l =
    l.made ++ filter (λ group. has_some group.changes) (groups_met l.first l.conflicts (drop l.group-index l.group-items)) ≡ buffer_of l.list l.conflicts
