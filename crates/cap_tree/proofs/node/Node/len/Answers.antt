use Rattle.std.proofs.Common.{◌≡◌, length, vec_len, arith}
use Rattle.cap_tree.specs.Shape.{branches}
use Rattle.cap_tree.proofs.BranchLemmas.{children_filled}
use Rattle.cap_tree.proofs.SiblingLemmas.{length_branches}
use Rattle.cap_tree.proofs.node.Node.len.Goals as goal

pub returns-in-Inner-clause-filled : goal.returns-in-Inner-clause-filled
returns-in-Inner-clause-filled g c =
    let n = rw c.in-Inner.is at c.self.invariant in
    let view = rw c.in-Inner.is at c.self.view_is in
    let filled = children_filled g.K.Ord.cmp c.in-Inner.field-0 (branches c.in-Inner.children.items) n.children n.fit in
    let len : length (branches c.in-Inner.children.items) ≡ vec_len c.in-Inner.children = omega (arith, length_branches c.in-Inner.children.items, c.in-Inner.children.ok.0) in
    rw (← view) (rw len at filled)
