use Rattle.std.proofs.Common.{◌≡◌, ◌++◌, drop}
use Rattle.std.specs.List.{enumerate_from}
use Rattle.cap_applier.proofs.transaction.every_column.Given as goal

-- the columns that are left are put behind those that are there
abbrev pub invariant-loop-column : goal.invariant-loop-column
invariant-loop-column g l = record {
  put : l.columns.items ++ enumerate_from l.column l.rest ≡ enumerate_from 0 l.row;
  left : l.rest ≡ drop l.column l.row;
}
