use Rattle.std.proofs.Common.{◌+◌, ◌<◌, ◌≤◌, length, arith, ap, ◌∙◌, rules, lit<}
use Rattle.cap_tree.specs.Path.{IsPath}
use Rattle.cap_tree.specs.Tree.{IsOrdered}
use Rattle.cap_tree.proofs.PathLemmas.{down_lower, down_fit, down_path, down_fits, down_key, child_ordered}
use Rattle.cap_tree.proofs.path.+seek.Goals as goal

pub seek-requires : goal.seek-requires
seek-requires g t c =
    let n = rw c.in-Inner.is at c.node.invariant in
    let view = rw c.in-Inner.is at c.node.view_is in
    let there = rw c.as_slice-in-Inner.ensures.value at (c.in-Some.ensures c.in-Inner.field-0 (rw c.as_slice-in-Inner.ensures.value n.children)) in
    let fit = down_fit g.K.Ord.cmp c.in-Inner.field-0 c.in-Inner.children.items _ c.in-Some.child.now c.in-Some.rest there n.children c.args.path.now.items (omega (arith, c.requires.fits, ap (λ n. n.height) view)) in
    let size : 520 < 9223372036854775808 = lit< tt in
    let ordered : IsOrdered g.K.Ord.cmp c.deref.result.now.entries = rw c.deref.ensures (child_ordered g.K.Ord.cmp c.in-Inner.children.items _ c.in-Some.child.now c.in-Some.rest.now there (rw (ap (λ n. n.entries) view) c.requires.ordered)) in
    let path : IsPath 32 c.push.new.self.items = rw c.push.ensures.items (down_path c.args.path.now.items c.in-Some.child.now c.in-Some.rest fit c.requires.path) in
    let room : length c.push.new.self.items + c.deref.result.now.height ≤ 32 = rw (c.push.ensures.items, c.deref.ensures) (down_fits c.args.path.now.items c.in-Some.child.now c.in-Some.rest fit) in
    let level : c.deref.result.now.height < c.args.node.now.height = rw (c.deref.ensures, ← ap (λ n. n.height) view) (down_lower g.K.Ord.cmp c.in-Inner.field-0 c.in-Inner.children.items _ c.in-Some.child.now c.in-Some.rest there n.children) in
    λ κs h. search rules

pub returns-in-Inner-clause-pending : goal.returns-in-Inner-clause-pending
returns-in-Inner-clause-pending g t c =
    let n = rw c.in-Inner.is at c.node.invariant in
    let view = rw c.in-Inner.is at c.node.view_is in
    let there = rw c.as_slice-in-Inner.ensures.value at (c.in-Some.ensures c.in-Inner.field-0 (rw c.as_slice-in-Inner.ensures.value n.children)) in
    rw (← ap (λ n. n.entries) view) (c.seek.ensures.pending ∙ rw (c.push.ensures.items, c.deref.ensures) (down_key g.K.Ord.cmp g.met.K.Ord.total c.args.key.now c.in-Inner.field-0 c.in-Inner.children.items c.in-Some.child.now c.in-Some.rest there n.children c.args.path.now.items))
