use Rattle.std.proofs.Common.{◌≡◌, ◌+◌, ◌++◌, length}
use Rattle.cap_records.specs.Record.{columns_set}
use Rattle.cap_records.proofs.ListLemmas.{columns_from}
use Rattle.cap_records.proofs.reading.columns_set.Given as goal

abbrev pub invariant-loop-column : goal.invariant-loop-column
invariant-loop-column l = record {
  made : l.columns.items ++ columns_from l.column l.rest ≡ columns_set l.fn.fields;
  left : l.column + length l.rest ≡ length l.fn.fields;
}
