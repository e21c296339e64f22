use Rattle.std.proofs.Common.{◌≡◌, ◌≤◌, ◌++◌, length}
use Rattle.cap_records.specs.WithIds.{keyed_rows}
use Rattle.cap_records.proofs.reads.first_rows.Given as goal

abbrev pub invariant-loop-row : goal.invariant-loop-row
invariant-loop-row l = record {
  few : length l.rows.items ≤ l.limit;
  parts : l.rows.items ++ keyed_rows l.row-iterator ≡ keyed_rows l.fn.entries;
}
