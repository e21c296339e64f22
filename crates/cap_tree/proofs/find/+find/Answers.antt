use Rattle.std.proofs.Common.{◌<◌, arith, refl, ap, rules}
use Rattle.cap_tree.specs.Tree.{IsOrdered}
use Rattle.cap_tree.proofs.PathLemmas.{child_ordered, child_and_rest, get_child}
use Rattle.cap_tree.proofs.find.+find.Goals as goal

pub find-requires : goal.find-requires
find-requires g t c =
    let n = rw c.in-Inner.is at c.node.invariant in
    let view = rw c.in-Inner.is at c.node.view_is in
    let there = rw c.as_slice-in-Inner.ensures.value at (c.in_ok-child-in-Inner.ensures c.in-Inner.field-0 (rw c.as_slice-in-Inner.ensures.value n.children)) in
    let child = c.deref.result.now in
    let ordered : IsOrdered g.K.Ord.cmp child.entries = rw c.deref.ensures (child_ordered g.K.Ord.cmp c.in-Inner.children.items _ _ _ there (rw (ap (λ n. n.entries) view) c.requires)) in
    let level : child.height < c.args.node.now.height = rw c.deref.ensures (omega (arith, (child_and_rest g.K.Ord.cmp c.in-Inner.children.items _ _ _ there _ n.children).0.0, ap (λ n. n.height) view)) in
    λ κs h. search rules

pub returns-in-Inner : goal.returns-in-Inner
returns-in-Inner g t c =
    let n = rw c.in-Inner.is at c.node.invariant in
    let view = rw c.in-Inner.is at c.node.view_is in
    let there = rw c.as_slice-in-Inner.ensures.value at (c.in_ok-child-in-Inner.ensures c.in-Inner.field-0 (rw c.as_slice-in-Inner.ensures.value n.children)) in
    rw (← ap (λ n. n.entries) view, get_child g.K.Ord.cmp c.in-Inner.children.items _ _ _ there g.met.K.Ord.total c.args.key.now _ n.children refl, ← c.deref.ensures) c.find.ensures
