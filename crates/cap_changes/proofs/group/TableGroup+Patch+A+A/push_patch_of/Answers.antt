use Rattle.std.proofs.Common.{arith, ap, ◌∙◌}
use Rattle.cap_changes.specs.Entries.{TableEntries}
use Rattle.cap_changes.specs.declared.patch.Patch.{Patch}
use Rattle.cap_changes.proofs.GroupLemmas.{patch_again}
use Rattle.cap_changes.proofs.StoredEntries.{leaves}
use Rattle.cap_changes.proofs.group.TableGroup+Patch+A+A.push_patch_of.Goals as goal

pub invariant_of-self : goal.invariant_of-self
invariant_of-self g c =
    let is = patch_again c.args.self.now.schema c.args.change.now c.requires c.as_bytes-bytes.ensures.values in
    (leaves c.end.result c.push_patch-pushed.result c.push_patch-pushed.new.out.items c.end.new.bytes.items c.end.new.ends.items c.self.invariant c.self.view_is is.1 is.0 (omega (arith, c.len-before.ensures, c.self.inside.bytes.ok.0)) (rw (c.flags.ensures.flags ∙ ap (λ (t : TableEntries (Patch g.row.A.Denot)). t.schema) c.self.view_is) at c.push_patch-pushed.ensures.bytes) c.push_patch-pushed.ensures.begins c.end.ensures.ok c.end.ensures.err).keeps

pub returns : goal.returns
returns g c =
    let is = patch_again c.args.self.now.schema c.args.change.now c.requires c.as_bytes-bytes.ensures.values in
    (leaves c.end.result c.push_patch-pushed.result c.push_patch-pushed.new.out.items c.end.new.bytes.items c.end.new.ends.items c.self.invariant c.self.view_is is.1 is.0 (omega (arith, c.len-before.ensures, c.self.inside.bytes.ok.0)) (rw (c.flags.ensures.flags ∙ ap (λ (t : TableEntries (Patch g.row.A.Denot)). t.schema) c.self.view_is) at c.push_patch-pushed.ensures.bytes) c.push_patch-pushed.ensures.begins c.end.ensures.ok c.end.ensures.err).ok
