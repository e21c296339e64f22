use Rattle.std.proofs.Common.{◌≡◌}
use Rattle.cap_connection.specs.Fields.{fields_before, side_at}
use Rattle.cap_connection.proofs.iter_record.side_record.Given as goal

abbrev pub invariant-loop-column : goal.invariant-loop-column
invariant-loop-column l = l.out.items ≡ fields_before (side_at l.fn.side l.fn.contents l.fn.position) l.column
