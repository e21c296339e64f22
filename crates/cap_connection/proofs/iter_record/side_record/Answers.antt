use Rattle.cap_connection.proofs.RecordLemmas.{one_more}
use Rattle.cap_connection.proofs.iter_record.side_record.Goals as goal

pub loop-column-preserved : goal.loop-column-preserved
loop-column-preserved c = one_more _ c.loop-column.column _ _ _ c.side_at.ensures c.in_ok-push_field.ensures c.loop-column.invariant
