use Rattle.std.proofs.Common.{◌≡◌, None, arith}
use Rattle.cap_group.specs.ChangeGroup.{refused_kind}
use Rattle.cap_group.proofs.GroupLemmas.{leaves_then}
use Rattle.cap_group.proofs.change_group.ChangeGroup.add.Goals as goal

pub returns-in-Changes-clause-content : goal.returns-in-Changes-clause-content
returns-in-Changes-clause-content g c =
    let none : refused_kind c.args.self.now c.args.blob.now ≡ None = grind (arith, c.refuses_kind_of.ensures, c.if-refuses_kind_of.false) in
    rw (none, c.in-Changes.is, ← c.merge.ensures, ← c.self.view_is) (leaves_then c.add_groups.result _ _ _ (rw c.groups.ensures at c.add_groups.ensures.content))

pub returns-in-Patches-clause-content : goal.returns-in-Patches-clause-content
returns-in-Patches-clause-content g c =
    let none : refused_kind c.args.self.now c.args.blob.now ≡ None = grind (arith, c.refuses_kind_of.ensures, c.if-refuses_kind_of.false) in
    rw (none, c.in-Patches.is, ← c.merge.ensures, ← c.self.view_is)
    (leaves_then c.add_groups-in-Patches.result _ _ _ (rw c.groups-in-Patches.ensures at c.add_groups-in-Patches.ensures.content))
