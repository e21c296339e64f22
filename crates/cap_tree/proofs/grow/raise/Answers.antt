use Rattle.std.proofs.Common.{◌+◌, arith}
use Rattle.std.proofs.lemmas.List.{append-nil}
use Rattle.cap_tree.specs.Shape.{IsChild, IsFit}
use Rattle.cap_tree.proofs.BranchLemmas.{fed}
use Rattle.cap_tree.proofs.grow.raise.Goals as goal

pub invariant_of-root : goal.invariant_of-root
invariant_of-root g c =
    let whole = c.args.node.now in
    let filled = c.len-length.ensures.filled in
    let child : IsChild (c.depth-height.result + 1) whole = (omega (arith, c.depth-height.ensures.value), fed whole (omega (arith, c.requires.full)) filled) in
    let fit : IsFit whole = (omega (arith, c.requires.full), omega (arith, c.requires.full), filled) in
    record {
      high = omega arith;
      most = omega (arith, c.insert_in_room.ensures.len, c.in_ok-children.ensures.len);
      children = rw (c.insert_in_room.ensures.items, c.in_ok-children.ensures.items, c.swap.ensures.x_after) (child, c.in_ok-least.ensures, tt, tt);
      fit = rw (c.insert_in_room.ensures.items, c.in_ok-children.ensures.items, c.swap.ensures.x_after) (fit, tt);
      count = rw (c.insert_in_room.ensures.items, c.in_ok-children.ensures.items, c.swap.ensures.x_after, append-nil) c.count-count.ensures;
    }
