use Rattle.std.proofs.Common.{◌≡◌, length}
use Rattle.cap_tree.specs.Path.{pending, IsPath}
use Rattle.cap_tree.proofs.path.next_leaf.Given as goal

abbrev pub invariant-loop-children : goal.invariant-loop-children
invariant-loop-children g l = record {
  path : IsPath 32 l.path.items;
  pending : pending l.path.items ≡ pending l.initial.path.items;
}

abbrev pub decreases-loop-children : goal.decreases-loop-children
decreases-loop-children g l = length l.path.items
