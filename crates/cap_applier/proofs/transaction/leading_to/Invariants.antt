use Rattle.std.proofs.Common.{◌≡◌, drop}
use Rattle.cap_txn.specs.Transaction.{begin_traced}
use Rattle.cap_applier.specs.Transaction.{rows_led}
use Rattle.cap_applier.proofs.transaction.leading_to.Given as goal

-- the rows that are left lead to what all of them lead to
abbrev pub invariant-loop-row : goal.invariant-loop-row
invariant-loop-row g l = rows_led l.left (drop l.row-index l.rows) l.txn ≡ rows_led l.left l.rows (begin_traced l.snapshot)
