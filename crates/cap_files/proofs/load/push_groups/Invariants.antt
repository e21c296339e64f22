use Rattle.std.proofs.Common.{◌≡◌, drop, string_bytes}
use Rattle.cap_files.specs.Load.{with_groups}
use Rattle.cap_files.proofs.load.push_groups.Given as goal

-- what the other groups make of what is made so far
abbrev pub invariant-loop-at : goal.invariant-loop-at
invariant-loop-at g l =
    with_groups l.at (drop l.at l.groups) (string_bytes l.lines, l.created.items)
    ≡ with_groups 0 l.groups (string_bytes l.initial.lines, l.initial.created.items)
