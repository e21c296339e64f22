use Rattle.std.proofs.Common.{◌≡◌, vec_len, take}
use Rattle.cap_tree.proofs.node.copy_entries.Given as goal

abbrev pub invariant-loop-entry : goal.invariant-loop-entry
invariant-loop-entry g l = record {
  items : l.copies.items ≡ take l.entry-index l.entries.items;
  len : vec_len l.copies ≡ l.entry-index;
}
