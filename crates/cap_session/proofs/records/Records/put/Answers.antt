use Rattle.std.proofs.Common.{◌∙◌}
use Rattle.cap_session.proofs.RecordLemmas.{put-last}
use Rattle.cap_session.proofs.records.Records.put.Goals as goal

pub invariant_of-self-2 : goal.invariant_of-self-2
invariant_of-self-2 g c =
    put-last c.move_latest.new.tree c.args.self.now c.args.key c.args.kept c.is_above-is_last.result (c.in_ok-move_latest.ensures.moved ∙ c.self.view_is) (rw c.self.view_is at c.self.invariant.0) c.is_above-is_last.ensures
