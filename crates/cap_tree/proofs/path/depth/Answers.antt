use Rattle.std.proofs.Common.{◌<◌, ◌^◌, length, arith}
use Rattle.cap_tree.proofs.PathLemmas.{is_low}
use Rattle.cap_tree.proofs.path.depth.Goals as goal

pub returns-clause-low : goal.returns-clause-low
returns-clause-low g c =
    let fits : length c.args.node.now.entries < 2 ^ 64 = omega (arith, c.count-count.ensures) in
    is_low g.K.Ord.cmp c.node.inside.link c.args.node.now c.node.view_is c.node.invariant fits c.requires
