use Rattle.std.proofs.Common.{Some}
use Rattle.cap_tree.specs.Tree.{IsOrdered}
use Rattle.cap_tree.proofs.EntryLemmas.{sorted_nil}
use Rattle.cap_tree.proofs.BranchLemmas.{changes_ordered}
use Rattle.cap_tree.proofs.tree.Tree.insert_hooked.Goals as goal

pub invariant_of-self-in-None : goal.invariant_of-self-in-None
invariant_of-self-in-None g c =
    let nil : IsOrdered g.K.Ord.cmp c.in_ok-leaf-in-None.leaf.value.entries = rw c.in_ok-leaf-in-None.ensures (sorted_nil g.K.Ord.cmp) in
    (c.change_in_root.ensures.top, changes_ordered g.K.Ord.cmp g.H.Hook.gives c.args.key (λ _. Some c.args.value) c.args.hook.now c.change_in_root.new.hook g.met.K.Ord.total c.change_in_root.result c.in_ok-leaf-in-None.leaf.value.entries c.change_in_root.new.root.value.entries nil c.change_in_root.ensures.changes)

pub invariant_of-self-in-Some : goal.invariant_of-self-in-Some
invariant_of-self-in-Some g c =
    let before = rw c.in-Some.is at c.self.invariant in
    (c.change_in_root-in-Some.ensures.top, changes_ordered g.K.Ord.cmp g.H.Hook.gives c.args.key (λ _. Some c.args.value) c.args.hook.now c.change_in_root-in-Some.new.hook g.met.K.Ord.total c.change_in_root-in-Some.result c.in-Some.node.value.entries c.change_in_root-in-Some.new.root.value.entries before.1 c.change_in_root-in-Some.ensures.changes)
