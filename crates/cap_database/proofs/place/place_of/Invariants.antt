use Rattle.std.proofs.Common.{◌-◌, ◌≤◌, length, take}
use Rattle.std.specs.declared.cmp.Ordering.TheVariants.{Greater}
use Rattle.cap_value.specs.Bytes.{bytes_cmp}
use Rattle.cap_tree.proofs.EntryLemmas.{Each}
use Rattle.cap_database.proofs.place.place_of.Given as goal

abbrev pub invariant-loop-at : goal.invariant-loop-at
invariant-loop-at g l = record {
  within : l.at ≤ length l.tables;
  past : Each bytes_cmp Greater l.name (take l.at l.tables);
}

abbrev pub decreases-loop-at : goal.decreases-loop-at
decreases-loop-at g l = length l.tables - l.at
