use Rattle.std.proofs.Common.{length, arith, ap}
use Rattle.cap_changes.proofs.LeftLemmas.{first_fits, others_fit}
use Rattle.cap_apply.proofs.GroupLemmas.{target_stays}
use Rattle.cap_apply.proofs.apply_blob.apply_group.Goals as goal

pub apply_change-requires-clause-fits : goal.apply_change-requires-clause-fits
apply_change-requires-clause-fits g c =
    first_fits g.C.Entry.fits_in c.args.group.now.schema c.schema-columns.result.now c.loop-change.change-iterator c.next.new.self c.in-Some.change c.schema-columns.ensures.schema c.in-Some.ensures.steps c.loop-change.invariant.fit

pub loop-change-preserved : goal.loop-change-preserved
loop-change-preserved g c =
    let group = c.args.group.now in
    let change = c.in-Some.change in
    let made = rw (c.table-table.ensures, c.schema-columns.ensures.schema) at c.in_ok-apply_change.ensures in
    record {
      left = rw (c.in-Some.ensures.steps, made) at c.loop-change.invariant.left;
      there = target_stays c.args.policy c.loop-change.number group.table group.schema (g.C.BlobChange.requested group.schema change) c.loop-change.applied c.apply_change.new.self c.loop-change.invariant.there made;
      count = omega (arith, ap length c.in-Some.ensures.steps, c.loop-change.invariant.count);
      fit = others_fit g.C.Entry.fits_in group.schema c.loop-change.change-iterator c.next.new.self change c.in-Some.ensures.steps c.loop-change.invariant.fit;
    }
