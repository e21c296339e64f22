use Rattle.std.proofs.Common.{◌≡◌, ◌-◌, slice_get}
use Rattle.cap_row.proofs.row_fields.RowFields.get.Given as goal

abbrev pub invariant-loop-passed : goal.invariant-loop-passed
invariant-loop-passed g l = slice_get l.fields (l.place - l.passed) ≡ slice_get l.fn.self l.place
