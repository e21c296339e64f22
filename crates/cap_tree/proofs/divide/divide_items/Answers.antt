use Rattle.std.proofs.Common.{◌++◌, ap}
use Rattle.cap_tree.specs.Tree.{IsOrdered}
use Rattle.cap_tree.proofs.SiblingLemmas.{leaf_cut}
use Rattle.cap_tree.proofs.divide.divide_items.Goals as goal

pub returns-in-Leaf-link-clause-cut : goal.returns-in-Leaf-link-clause-cut
returns-in-Leaf-link-clause-cut g c =
    let front = rw c.in-Leaf.is at c.front.view_is in
    let back = rw c.in-Leaf-link.is at c.back.view_is in
    let e = c.in_ok-next-in-Leaf-link.ensures in
    let ordered : IsOrdered g.K.Ord.cmp (c.in-Leaf.entries.items ++ c.in-Leaf-link.others.items) = rw (ap (λ n. n.entries) front, ap (λ n. n.entries) back) c.requires.pair.ordered in
    rw (← front, ← back) (leaf_cut g.K.Ord.cmp g.met.K.Ord.total c.args.at c.in-Leaf.entries c.in-Leaf-link.others c.cut_items.new.front c.cut_items.new.back ordered e.front e.back e.front_len e.back_len _ e.key)
