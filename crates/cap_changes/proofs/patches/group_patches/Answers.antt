use Rattle.std.proofs.Common.{◌∙◌, ap, List, Bool}
use Rattle.cap_changes.specs.Entries.{TableEntries}
use Rattle.cap_changes.specs.Fits.{change_fits}
use Rattle.cap_changes.specs.Patch.{patch_of}
use Rattle.cap_changes.specs.declared.patch.Patch.{Patch}
use Rattle.cap_changes.proofs.LeftLemmas.{first_fits, others_fit, image_made}
use Rattle.cap_changes.proofs.patches.group_patches.Goals as goal

pub push_patch_of-requires : goal.push_patch_of-requires
push_patch_of-requires g c =
    first_fits (change_fits {A = g.row.A.Denot}) c.args.group.now.schema c.loop-change.patches.schema c.loop-change.change-iterator c.next.new.self c.in-Some.change c.loop-change.invariant.schema c.in-Some.ensures.steps c.loop-change.invariant.fit

pub loop-change-preserved : goal.loop-change-preserved
loop-change-preserved g c =
    let flags = c.args.group.now.schema in
    record {
      table = ap (λ (t : TableEntries (Patch g.row.A.Denot)). t.table) c.in_ok-push_patch_of.ensures ∙ c.loop-change.invariant.table;
      schema = ap (λ (t : TableEntries (Patch g.row.A.Denot)). t.schema) c.in_ok-push_patch_of.ensures ∙ c.loop-change.invariant.schema;
      made = image_made (patch_of flags) (patch_of c.loop-change.patches.schema) c.loop-change.change-iterator c.next.new.self c.in-Some.change c.loop-change.patches.changes c.push_patch_of.new.self.changes _ c.in-Some.ensures.steps
          (ap (λ (f : List Bool). patch_of f c.in-Some.change) c.loop-change.invariant.schema) (ap (λ (t : TableEntries (Patch g.row.A.Denot)). t.changes) c.in_ok-push_patch_of.ensures) c.loop-change.invariant.made;
      fit = others_fit (change_fits {A = g.row.A.Denot}) flags c.loop-change.change-iterator c.next.new.self c.in-Some.change c.in-Some.ensures.steps c.loop-change.invariant.fit;
    }
