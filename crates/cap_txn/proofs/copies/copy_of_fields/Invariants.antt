use Rattle.std.proofs.Common.{◌≡◌, take}
use Rattle.cap_txn.proofs.copies.copy_of_fields.Given as goal

abbrev pub invariant-loop-column : goal.invariant-loop-column
invariant-loop-column g l = l.copies.items ≡ take l.column-index l.column-items
