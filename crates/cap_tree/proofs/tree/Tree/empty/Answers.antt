use Rattle.cap_tree.proofs.EntryLemmas.{sorted_nil}
use Rattle.cap_tree.proofs.tree.Tree.empty.Goals as goal

pub invariant_of-result : goal.invariant_of-result
invariant_of-result g c = (tt, sorted_nil g.K.Ord.cmp)
