use Rattle.std.proofs.Common.{◌≡◌, length}
use Rattle.cap_row.specs.declared.limits.TheConstants.{COLUMNS_MAX}
use Rattle.cap_row.specs.Row.{are_columns, columns_of}
use Rattle.cap_row.proofs.RowLemmas.{LeftColumns}
use Rattle.cap_row.proofs.update.are_many_columns.Given as goal

abbrev pub invariant-loop-column : goal.invariant-loop-column
invariant-loop-column g l = record {
  long : length l.named ≡ COLUMNS_MAX;
  left : LeftColumns l.width l.fields l.named l.column-index ≡ are_columns l.width (columns_of l.fields);
}
