use Rattle.std.proofs.Common.{◌≡◌, ◌≤◌, drop, length, take}
use Rattle.cap_txn.specs.OrderedSet.{with_each}
use Rattle.cap_txn.proofs.ordered_set.add_each.Given as goal

abbrev pub invariant-loop-item : goal.invariant-loop-item
invariant-loop-item g l = record {
  rest : with_each g.K.Ord.cmp l.set (drop l.item-index l.item-items) ≡ with_each g.K.Ord.cmp l.fn.set l.item-items;
  long : length l.fn.set ≤ length l.set;
  front : take (length l.fn.set) l.set ≡ l.fn.set;
}
