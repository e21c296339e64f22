use Rattle.std.proofs.Common.{◌≡◌}
use Rattle.std.specs.Cmp.Lexicographic.{pointwise}
use Rattle.cap_table.specs.Scan.{rows}
use Rattle.cap_txn.specs.Footprint.{row_eq}
use Rattle.cap_txn.proofs.changed.are_same_rows.Given as goal

abbrev pub invariant-loop-name : goal.invariant-loop-name
invariant-loop-name g l = pointwise row_eq l.name-iterator l.others ≡ pointwise row_eq (rows l.old) (rows l.new)
