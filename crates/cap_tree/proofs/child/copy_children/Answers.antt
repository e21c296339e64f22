use Rattle.std.proofs.Common.{arith}
use Rattle.std.proofs.lemmas.Grind.{common_steps}
use Rattle.cap_tree.proofs.SiblingLemmas.{branches_push}
use Rattle.cap_tree.proofs.child.copy_children.Goals as goal

pub loop-child-preserved : goal.loop-child-preserved
loop-child-preserved g c = record {
  items = rw c.in_ok-push.ensures.items (branches_push _ _ _ _ c.child-item.result (grind (arith, common_steps)) c.loop-child.invariant.items (rw c.deref-child-items.ensures.value at c.child-item.is) c.in_ok-share.ensures.least c.in_ok-share.ensures.node);
  len = grind (arith, common_steps);
}
