use Rattle.std.proofs.Common.{arith}
use Rattle.cap_connection.specs.Positions.{counts}
use Rattle.cap_connection.proofs.RecordLemmas.{sum_more}
use Rattle.cap_connection.proofs.iter_position.number_at.Goals as goal

pub loop-group-preserved : goal.loop-group-preserved
loop-group-preserved c =
    let more = sum_more (counts c.args.contents.now) c.loop-group.group in
    omega (arith, more, c.loop-group.invariant, c.change_count.ensures)
