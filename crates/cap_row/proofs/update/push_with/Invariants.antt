use Rattle.std.proofs.Common.{◌≡◌, ◌+◌, ◌++◌, length}
use Rattle.cap_row.specs.Row.{row_with}
use Rattle.cap_row.proofs.RowLemmas.{row_from}
use Rattle.cap_row.proofs.update.push_with.Given as goal

abbrev pub invariant-loop-column : goal.invariant-loop-column
invariant-loop-column g l = record {
  put_so_far : l.builder ++ row_from l.changes l.column l.rest ≡ l.fn.builder ++ row_with l.changes l.fn.row;
  left : l.column + length l.rest ≡ length l.fn.row;
}
