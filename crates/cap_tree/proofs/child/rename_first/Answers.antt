use Rattle.std.proofs.Common.{◌<◌, length, arith, refl}
use Rattle.cap_tree.specs.Shape.{branches}
use Rattle.cap_tree.proofs.BranchLemmas.{renamed}
use Rattle.cap_tree.proofs.SiblingLemmas.{length_branches, lowered}
use Rattle.cap_tree.proofs.child.rename_first.Goals as goal

pub returns : goal.returns
returns g c =
    let items = c.args.children.now.items in
    let filled = c.if-is_empty.ensures in
    let within : 0 < length items = grind (arith, filled, c.args.children.now.ok.0) in
    let e = lowered items _ record { least = c.in_ok-renamed.renamed; node = c.index_mut-first.result.now.node } c.args.least.now within c.index_mut-first.ensures.value (g.met.K.Exact.exact _ _ c.in_ok-renamed.ensures.cases) refl in
    let new = renamed g.K.Ord.cmp g.met.K.Ord.total c.args.least.now c.args.height (branches items) _ _ (omega (arith, within, length_branches items)) e c.requires.children c.requires.fit c.requires.not_below in
    record { len = refl; same = new.0; place = λ _. new.1; leasts = new.2 }
