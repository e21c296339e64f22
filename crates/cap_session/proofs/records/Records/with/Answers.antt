use Rattle.std.proofs.Common.{◌∙◌}
use Rattle.cap_session.proofs.RecordLemmas.{put-last}
use Rattle.cap_session.proofs.records.Records.with.Goals as goal

pub invariant_of-result : goal.invariant_of-result
invariant_of-result g c =
    put-last c.in_ok-snapshot.field-0 c.args.self.now c.args.key c.args.kept c.is_above-is_last.result ((c.in_ok-snapshot.ensures ∙ c.in_ok-move_latest.ensures.moved) ∙ c.self.view_is) (rw c.self.view_is at c.self.invariant.0) c.is_above-is_last.ensures
