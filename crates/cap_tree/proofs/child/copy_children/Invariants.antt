use Rattle.std.proofs.Common.{◌≡◌, vec_len, take}
use Rattle.cap_tree.specs.Shape.{branches}
use Rattle.cap_tree.proofs.child.copy_children.Given as goal

abbrev pub invariant-loop-child : goal.invariant-loop-child
invariant-loop-child g l = record {
  items : branches l.copies.items ≡ take l.child-index (branches l.children.items);
  len : vec_len l.copies ≡ l.child-index;
}
