use Rattle.std.proofs.Common.{◌≡◌, ◌+◌, length, drop}
use Rattle.cap_tree.specs.Shape.{branches, entries_of}
use Rattle.cap_tree.proofs.child.count_of.Given as goal

abbrev pub invariant-loop-child : goal.invariant-loop-child
invariant-loop-child g l = l.count + length (entries_of (branches (drop l.child-index l.children))) ≡ length (entries_of (branches l.children))
