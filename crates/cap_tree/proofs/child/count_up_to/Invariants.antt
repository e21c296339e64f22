use Rattle.std.proofs.Common.{◌≡◌, ◌+◌, ◌-◌, ◌≤◌, length, drop}
use Rattle.cap_tree.specs.Shape.{branches, place}
use Rattle.cap_tree.proofs.child.count_up_to.Given as goal

abbrev pub invariant-loop-at : goal.invariant-loop-at
invariant-loop-at g l = record {
  within : l.at ≤ length l.children;
  rest : place g.K.Ord.cmp l.key (branches l.children) ≡ l.at + place g.K.Ord.cmp l.key (branches (drop l.at l.children));
}

abbrev pub decreases-loop-at : goal.decreases-loop-at
decreases-loop-at g l = length l.children - l.at
