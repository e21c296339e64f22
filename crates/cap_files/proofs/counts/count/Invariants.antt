use Rattle.std.proofs.Common.{◌≡◌, ◌+◌, ◌≤◌, length}
use Rattle.cap_files.specs.Summary.{count}
use Rattle.cap_files.proofs.counts.count.Given as goal

-- those that were counted, and those that are left
abbrev pub invariant-loop-place : goal.invariant-loop-place
invariant-loop-place g l = record {
  counted : l.found + count g.C.CountedEntry.is l.counted l.left ≡ count g.C.CountedEntry.is l.counted l.group.changes;
  few : l.found ≤ l._place;
  places : l._place + length l.left ≡ length l.group.changes;
}
