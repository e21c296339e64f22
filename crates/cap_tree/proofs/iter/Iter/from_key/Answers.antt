use Rattle.std.proofs.Common.{[], length, length-append, ap, arith}
use Rattle.std.specs.BTreeMap.Range.{entries_from}
use Rattle.cap_tree.proofs.PathLemmas.{length-entries_from}
use Rattle.cap_tree.proofs.iter.Iter.from_key.Goals as goal

pub invariant_of-result-2 : goal.invariant_of-result-2
invariant_of-result-2 g c =
    let compare = g.K.Ord.cmp c.args.key.now in
    let entries = c.deref-node.result.now.entries in
    let rest = rw c.start-path.ensures at c.seek-leaf.ensures.pending in
    (c.seek-leaf.ensures.path, omega (arith, ap length rest, length-append (entries_from compare entries) [], length-entries_from compare entries, c.depth-depth.ensures.fits))
