use Rattle.std.proofs.Common.{refl}
use Rattle.cap_changes.specs.Fits.{change_fits}
use Rattle.cap_changes.proofs.LeftLemmas.{first_fits, others_fit}
use Rattle.cap_rebase.proofs.PushLemmas.{over_more}
use Rattle.cap_rebase.proofs.rows.over_changes.Goals as goal

pub over_its_row-requires-clause-remote_fits : goal.over_its_row-requires-clause-remote_fits
over_its_row-requires-clause-remote_fits g c =
    first_fits (change_fits {A = g.row.A.Denot}) c.args.schema.now c.args.schema.now c.loop-remote.remote-iterator c.next.new.self c.in-Some.remote refl c.in-Some.ensures.steps c.loop-remote.invariant.fit

pub loop-remote-preserved : goal.loop-remote-preserved
loop-remote-preserved g c = record {
  over = over_more c.args.schema.now c.args.local.now c.loop-remote.remote-iterator c.next.new.self c.in-Some.remote c.loop-remote.left c.in_ok-left.left _ c.in-Some.ensures.steps c.in_ok-left.ensures.change c.loop-remote.invariant.over;
  fits = c.in_ok-left.ensures.fits;
  fit = others_fit (change_fits {A = g.row.A.Denot}) c.args.schema.now c.loop-remote.remote-iterator c.next.new.self c.in-Some.remote c.in-Some.ensures.steps c.loop-remote.invariant.fit;
}
