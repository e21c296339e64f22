use Rattle.std.proofs.Common.{◌+◌, ◌<◌, ◌≤◌, length, arith, ap, ◌∙◌, rules, lit<}
use Rattle.cap_tree.specs.Path.{IsPath}
use Rattle.cap_tree.proofs.PathLemmas.{down_lower, down_fit, down_path, down_fits, down_first}
use Rattle.cap_tree.proofs.path.+descend.Goals as goal

pub descend-requires : goal.descend-requires
descend-requires g t c =
    let n = rw c.in-Inner.is at c.node.invariant in
    let view = rw c.in-Inner.is at c.node.view_is in
    let is = rw c.as_slice-in-Inner.ensures.value at c.in-Some.ensures.cases.0 in
    let fit = down_fit g.K.Ord.cmp c.in-Inner.field-0 c.in-Inner.children.items 0 c.in-Some.child.now c.in-Some.rest is n.children c.args.path.now.items (omega (arith, c.requires.fits, ap (λ n. n.height) view)) in
    let size : 520 < 9223372036854775808 = lit< tt in
    let path : IsPath 32 c.push.new.self.items = rw c.push.ensures.items (down_path c.args.path.now.items c.in-Some.child.now c.in-Some.rest fit c.requires.path) in
    let room : length c.push.new.self.items + c.deref.result.now.height ≤ 32 = rw (c.push.ensures.items, c.deref.ensures) (down_fits c.args.path.now.items c.in-Some.child.now c.in-Some.rest fit) in
    let level : c.deref.result.now.height < c.args.node.now.height = rw (c.deref.ensures, ← ap (λ n. n.height) view) (down_lower g.K.Ord.cmp c.in-Inner.field-0 c.in-Inner.children.items 0 c.in-Some.child.now c.in-Some.rest is n.children) in
    λ κs h. search rules

pub returns-in-Inner-clause-pending : goal.returns-in-Inner-clause-pending
returns-in-Inner-clause-pending g t c =
    let view = rw c.in-Inner.is at c.node.view_is in
    let is = rw c.as_slice-in-Inner.ensures.value at c.in-Some.ensures.cases.0 in
    rw (← ap (λ n. n.entries) view) (c.descend.ensures.pending ∙ rw (c.push.ensures.items, c.deref.ensures) (down_first c.in-Inner.children.items c.in-Some.child.now c.in-Some.rest is c.args.path.now.items))
