use Rattle.std.proofs.Common.{ap, ◌∙◌, ◌++◌, drop, ◌+◌}
use Rattle.std.specs.Prelude.{filter_map}
use Rattle.cap_changes.specs.Group.{TableChanges}
use Rattle.cap_rebase.specs.Buffer.{met}
use Rattle.cap_rebase.proofs.PushLemmas.{left_more_at}
use Rattle.cap_rebase.proofs.buffer.group_met.Goals as goal

pub loop-conflict-preserved : goal.loop-conflict-preserved
loop-conflict-preserved g c =
    let pushed = c.in_ok-push_change.ensures in
    let left = met c.args.first c.args.group.now.changes in (
      ap (λ (t : TableChanges g.row.A.Denot). t.table) pushed ∙ c.loop-conflict.invariant.0,
      ap (λ (t : TableChanges g.row.A.Denot). t.schema) pushed ∙ c.loop-conflict.invariant.1,
      ap (λ (t : TableChanges g.row.A.Denot). t.changes ++ filter_map left (drop (c.loop-conflict.conflict-index + 1) c.args.conflicts.now)) pushed
          ∙ left_more_at left c.loop-conflict.met.changes (filter_map left c.args.conflicts.now) c.args.conflicts.now c.loop-conflict.conflict-index _ c.in_ok-met_in.field-0
          c.loop-conflict-test.true c.in_ok-met_in.ensures.change c.loop-conflict.invariant.2,
    )
