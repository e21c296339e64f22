use Rattle.std.proofs.Common.{◌≡◌, length}
use Rattle.std.specs.BTreeMap.Range.{entries_from}
use Rattle.cap_tree.specs.Tree.{IsOrdered}
use Rattle.cap_tree.proofs.path.entries_not_below.Given as goal

abbrev pub invariant-loop-entry : goal.invariant-loop-entry
invariant-loop-entry g l = record {
  ordered : IsOrdered g.K.Ord.cmp l.rest;
  same : entries_from (g.K.Ord.cmp l.key) l.entries ≡ entries_from (g.K.Ord.cmp l.key) l.rest;
}

abbrev pub decreases-loop-entry : goal.decreases-loop-entry
decreases-loop-entry g l = length l.rest
