use Rattle.std.proofs.Common.{◌≡◌, ◌∙◌, Option, Some, None, sym, ap, subst}
use Rattle.std.specs.Prelude.{IfSome}
use Rattle.std.specs.Global.{Global}
use Rattle.cap_applier.specs.Applier.{ApplierState, merged_at, met}
use Rattle.cap_applier.specs.Looked.{KeepsTo}
use Rattle.cap_applier.specs.Merge.{refused_merge}
use Rattle.cap_connection.specs.Application.{ApplicationState}
use Rattle.cap_connection.proofs.ApplicationLemmas.{row-accepted, same-standing}
use Rattle.cap_connection.proofs.application.Application.answer_row.Goals as goal

pub merge-requires : goal.merge-requires
merge-requires c =
    let s = c.in-Some.applier.now in
    let t = c.in-Some-take.applier in
    let row = c.in_ok-row-in-Some.row in
    let is : c.args.self.now.applier ≡ Some t =
    ap (λ (app : ApplicationState). app.applier) (sym c.self.view_is) ∙ sym c.in-Some-take.ensures.value in
    let same : t ≡ s = same-standing c.args.self.now s t (sym c.in-Some.ensures) is in
    subst (λ (x : ApplierState Global). refused_merge x row ≡ None) (sym same) (row-accepted s c.args.row.now row c.in_ok-row-in-Some.ensures)

pub invariant_of-self-in-Ok : goal.invariant_of-self-in-Ok
invariant_of-self-in-Ok c =
    let base = c.self.inside.base.database in
    let law = c.applications_keep_to_the_rows_that_they_look_at.ensures in
    let s = c.in-Some-take.applier in
    let row = c.in_ok-row-in-Some.row in
    let had : KeepsTo base s = subst (λ (o : Option (ApplierState Global)). IfSome o (KeepsTo base)) (sym c.in-Some-take.ensures.value) c.self.invariant in
    law.between base (merged_at (met s) row s) c.in-Ok.applier (law.merged base s row had) c.in-Ok.ensures
