use Rattle.std.proofs.Common.{◌<◌, length, arith, ap}
use Rattle.cap_tree.proofs.SiblingLemmas.{leaf_above, inner_above}
use Rattle.cap_tree.proofs.node.Node.least.Goals as goal

pub returns-in-Leaf : goal.returns-in-Leaf
returns-in-Leaf g c =
    let view = rw c.in-Leaf.is at c.self.view_is in
    let within : 0 < length c.in-Leaf.entries.items = omega (arith, c.in-Leaf.entries.ok.0, ap (λ n. n.items) view, c.requires.some) in
    let least = g.met.K.Exact.exact _ _ c.in_ok-least-in-Leaf.ensures.cases in
    rw (← ap (λ n. n.entries) view) (leaf_above g.K.Ord.cmp g.met.K.Ord.total c.in-Leaf.entries.items 0 _ _ within c.index.ensures least (rw (ap (λ n. n.entries) view) c.requires.ordered))

pub returns-in-Inner : goal.returns-in-Inner
returns-in-Inner g c =
    let n = rw c.in-Inner.is at c.self.invariant in
    let view = rw c.in-Inner.is at c.self.view_is in
    let within : 0 < length c.in-Inner.children.items = omega (arith, c.in-Inner.children.ok.0, ap (λ n. n.items) view, c.requires.some) in
    let least = g.met.K.Exact.exact _ _ c.in_ok-least-in-Inner.ensures.cases in
    rw (← ap (λ n. n.entries) view, least) (inner_above g.K.Ord.cmp g.met.K.Ord.total _ c.in-Inner.children.items 0 c.index-in-Inner.result.now n.children within c.index-in-Inner.ensures)
