use Rattle.std.proofs.Common.{◌∙◌, ap, sym, subst, List, Bool, Option}
use Rattle.std.specs.Prelude.{IfSome, IsTrue}
use Rattle.cap_changes.specs.Fits.{change_fits}
use Rattle.cap_changes.specs.declared.row_change.RowChange.{RowChange}
use Rattle.cap_rebase.specs.Rebase.{rebased}
use Rattle.cap_rebase.proofs.LeftLemmas.{rebased_kept}
use Rattle.cap_rebase.proofs.RebaseLemmas.{rebased-fits}
use Rattle.cap_rebase.proofs.change.rebase_change.Goals as goal

pub of-requires : goal.of-requires
of-requires g c =
    (rebased_kept c.args.schema.now c.flags-flags.result.now c.args.remote.now c.args.local.now c.new-bytes.result.items c.push_rebased.new.out.items _ c.flags-flags.ensures.flags c.new-bytes.ensures.items c.in_ok-push_rebased.ensures
    c.requires.remote_fits c.requires.local_fits c.as_bytes-remote.ensures.values c.as_bytes-local.ensures.values).left

pub returns : goal.returns
returns g c =
    let is = c.of.ensures
    ∙ (rebased_kept c.args.schema.now c.flags-flags.result.now c.args.remote.now c.args.local.now c.new-bytes.result.items c.push_rebased.new.out.items _ c.flags-flags.ensures.flags c.new-bytes.ensures.items c.in_ok-push_rebased.ensures
    c.requires.remote_fits c.requires.local_fits c.as_bytes-remote.ensures.values c.as_bytes-local.ensures.values).is in
    record {
      change = is;
      fits = subst (λ (o : Option (RowChange g.row.A.Denot)). IfSome o (λ one. IsTrue (change_fits c.args.schema.now one))) (sym is)
          (rebased-fits c.args.schema.now c.args.remote.now c.args.local.now c.requires.remote_fits c.requires.local_fits);
    }
