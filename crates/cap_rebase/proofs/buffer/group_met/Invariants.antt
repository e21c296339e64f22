use Rattle.std.proofs.Common.{◌≡◌, ◌++◌, drop}
use Rattle.std.specs.Prelude.{filter_map}
use Rattle.cap_rebase.specs.Buffer.{met}
use Rattle.cap_rebase.proofs.buffer.group_met.Given as goal

-- what was put, and what the conflicts that are left have
abbrev pub invariant-loop-conflict : goal.invariant-loop-conflict
invariant-loop-conflict g l =
    (l.met.table ≡ l.group.table)
    × (l.met.schema ≡ l.group.schema)
    × (l.met.changes ++ filter_map (met l.fn.first l.group.changes) (drop l.conflict-index l.conflicts) ≡ filter_map (met l.fn.first l.group.changes) l.conflicts)
