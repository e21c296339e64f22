use Rattle.std.proofs.Common.{◌≡◌, ◌+◌, length}
use Rattle.cap_row.proofs.row_fields.RowFields.width.Given as goal

abbrev pub invariant-loop-width : goal.invariant-loop-width
invariant-loop-width g l = l.width + length l.rest ≡ length l.self
