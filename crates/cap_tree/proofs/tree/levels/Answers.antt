use Rattle.std.proofs.Common.{◌<◌, length, arith}
use Rattle.cap_tree.proofs.BranchLemmas.{few_levels}
use Rattle.cap_tree.proofs.tree.levels.Goals as goal

pub returns-clause-digits : goal.returns-clause-digits
returns-clause-digits g c = λ digits fits.
    let some : 0 < length c.args.node.now.entries = omega arith in
    rw c.depth.ensures.value (few_levels c.args.node.now c.len-length.ensures.filled c.requires some digits fits)
