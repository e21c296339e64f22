use Rattle.std.proofs.Common.{◌≡◌, Some, None, sym, ap, ◌∙◌}
use Rattle.cap_applier.specs.Applier.{ApplierState, met}
use Rattle.cap_applier.specs.Merge.{refused_for, refused_merge}
use Rattle.cap_applier.proofs.MergeLemmas.{accepted-own}
use Rattle.cap_applier.proofs.applier.Applier.merge.Goals as goal

pub merge-requires-clause-own : goal.merge-requires-clause-own
merge-requires-clause-own g c =
    let s = c.self.inside.application in
    let is : met s ≡ Some c.in-Some.conflict = sym c.self.invariant.0 ∙ c.in-Some.is in
    let fits : refused_merge s c.args.row ≡ None = ap (λ (t : ApplierState g.row.A.Denot). refused_merge t c.args.row) c.self.view_is ∙ c.requires in
    accepted-own s.progress.applied.database c.in-Some.conflict c.args.row (ap (λ o. refused_for s.progress.applied.database o c.args.row) (sym is) ∙ fits)
