use Rattle.std.proofs.Common.{◌-◌, ◌≤◌, length, take}
use Rattle.std.specs.declared.cmp.Ordering.TheVariants.{Greater}
use Rattle.cap_tree.proofs.EntryLemmas.{Each}
use Rattle.cap_tree.proofs.leaf.search.Given as goal

abbrev pub invariant-loop-at : goal.invariant-loop-at
invariant-loop-at g l = record {
  within : l.at ≤ length l.entries;
  past : Each g.K.Ord.cmp Greater l.key (take l.at l.entries);
}

abbrev pub decreases-loop-at : goal.decreases-loop-at
decreases-loop-at g l = length l.entries - l.at
