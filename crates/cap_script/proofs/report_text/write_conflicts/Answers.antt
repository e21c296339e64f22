use Rattle.std.proofs.Common.{string_bytes}
use Rattle.cap_script.specs.ReplyText.{conflict_text}
use Rattle.cap_script.proofs.RowLemmas.{one_more_at}
use Rattle.cap_script.proofs.report_text.write_conflicts.Goals as goal

pub loop-conflict-preserved : goal.loop-conflict-preserved
loop-conflict-preserved g c =
    one_more_at conflict_text c.args.conflicts.now c.loop-conflict.conflict-index _ (string_bytes c.loop-conflict.out) (string_bytes c.write_conflict.new.out) _ c.loop-conflict-test.true c.in_ok-write_conflict.ensures c.loop-conflict.invariant
