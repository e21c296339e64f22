use Rattle.std.proofs.Common.{ap}
use Rattle.cap_tree.proofs.PathLemmas.{last_none, last_some}
use Rattle.cap_tree.proofs.find.+last.Goals as goal

pub returns-in-Inner-clause-none : goal.returns-in-Inner-clause-none
returns-in-Inner-clause-none g t c =
    let n = rw c.in-Inner.is at c.node.invariant in
    let view = rw c.in-Inner.is at c.node.view_is in
    let is = rw c.as_slice-in-Inner.ensures.value at c.in_ok-child-in-Inner.ensures.cases.0 in
    rw (← ap (λ n. n.entries) view) (last_none g.K.Ord.cmp _ c.in-Inner.children.items _ c.in_ok-child-in-Inner.child.now is c.last-in-Inner.result n.children (rw c.deref.ensures at c.last-in-Inner.ensures.none))

pub returns-in-Inner-clause-last : goal.returns-in-Inner-clause-last
returns-in-Inner-clause-last g t c =
    let n = rw c.in-Inner.is at c.node.invariant in
    let view = rw c.in-Inner.is at c.node.view_is in
    let is = rw c.as_slice-in-Inner.ensures.value at c.in_ok-child-in-Inner.ensures.cases.0 in
    rw (← ap (λ n. n.entries) view) (last_some g.K.Ord.cmp c.in-Inner.field-0 c.in-Inner.children.items _ c.in_ok-child-in-Inner.child.now is c.last-in-Inner.result (λ e. e.now) (rw c.deref.ensures at c.last-in-Inner.ensures.last))
