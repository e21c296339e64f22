use Rattle.std.proofs.Common.{ap, refl, sym, subst, ◌∙◌, ◌++◌, List, Bool}
use Rattle.std.specs.Prelude.{filter_map, IfSome, IsTrue}
use Rattle.cap_changes.specs.Fits.{change_fits}
use Rattle.cap_changes.specs.Group.{TableChanges}
use Rattle.cap_changes.proofs.LeftLemmas.{first_fits, others_fit}
use Rattle.cap_rebase.specs.Rebaser.{rebased_in}
use Rattle.cap_rebase.proofs.PushLemmas.{left_more}
use Rattle.cap_rebase.proofs.rows.rebased_group.Goals as goal

pub rebased_in-requires : goal.rebased_in-requires
rebased_in-requires g c =
    first_fits (change_fits {A = g.row.A.Denot}) c.args.group.now.schema c.args.group.now.schema c.loop-local.local-iterator c.next.new.self c.in-Some.local refl c.in-Some.ensures.steps c.loop-local.invariant.fit

pub push_change-requires : goal.push_change-requires
push_change-requires g c =
    subst (λ (flags : List Bool). IfSome c.in_ok-rebased_in.field-0 (λ one. IsTrue (change_fits flags one))) (sym c.loop-local.invariant.schema) c.in_ok-rebased_in.ensures.fits

pub loop-local-preserved : goal.loop-local-preserved
loop-local-preserved g c =
    let pushed = c.in_ok-push_change.ensures in
    let left = rebased_in c.args.buffers.now c.args.group.now in record {
      table = ap (λ (t : TableChanges g.row.A.Denot). t.table) pushed ∙ c.loop-local.invariant.table;
      schema = ap (λ (t : TableChanges g.row.A.Denot). t.schema) pushed ∙ c.loop-local.invariant.schema;
      made = ap (λ (t : TableChanges g.row.A.Denot). t.changes ++ filter_map left c.next.new.self) pushed
          ∙ left_more left c.loop-local.rebased.changes (filter_map left c.args.group.now.changes) c.loop-local.local-iterator c.next.new.self c.in-Some.local c.in_ok-rebased_in.field-0
          c.in-Some.ensures.steps c.in_ok-rebased_in.ensures.change c.loop-local.invariant.made;
      fit = others_fit (change_fits {A = g.row.A.Denot}) c.args.group.now.schema c.loop-local.local-iterator c.next.new.self c.in-Some.local c.in-Some.ensures.steps c.loop-local.invariant.fit;
    }
