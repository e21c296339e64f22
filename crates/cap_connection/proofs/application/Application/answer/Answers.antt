use Rattle.std.proofs.Common.{◌≡◌, ◌∙◌, true, not, Option, Some, None, Err, sym, ap, subst}
use Rattle.std.specs.Prelude.{IfSome, is_some}
use Rattle.std.specs.Global.{Global}
use Rattle.cap_value.specs.declared.memory.Fault.TheVariants as stop
use Rattle.cap_applier.specs.Applier.{ApplierState, answered, met}
use Rattle.cap_applier.specs.Looked.{KeepsTo}
use Rattle.cap_connection.specs.Application.{AnswersWith, ApplicationState, conflict_of}
use Rattle.cap_connection.proofs.ApplicationLemmas.{answers-over, is_some-copied, keeps-on}
use Rattle.cap_connection.proofs.application.Application.answer.Goals as goal

pub invariant_of-self-in-Ok : goal.invariant_of-self-in-Ok
invariant_of-self-in-Ok c =
    let base = c.self.inside.base.database in
    let law = c.applications_keep_to_the_rows_that_they_look_at.ensures in
    let s = c.in-Some.applier in
    let had : KeepsTo base s = subst (λ (o : Option (ApplierState Global)). IfSome o (KeepsTo base)) (sym c.in-Some.ensures.value) c.self.invariant in
    keeps-on base (law.between base) (answered c.args.answer s) (law.step base c.args.answer s had) c.in-Ok.applier c.in-Ok.ensures

pub returns-in-Err-OutOfMemory : goal.returns-in-Err-OutOfMemory
returns-in-Err-OutOfMemory c =
    let base = c.self.inside.base in
    let s = c.in-Some.applier in
    let was : record { base = base; applier = Some s } ≡ c.args.self.now =
    ap (λ (o : Option (ApplierState Global)). record { base = base; applier = o }) c.in-Some.ensures.value ∙ c.self.view_is in
    let at : is_some (met s) ≡ true =
    ap (λ (app : ApplicationState). is_some (conflict_of app)) was ∙ ap is_some (sym c.conflict.ensures) ∙ is_some-copied c.conflict.result
    ∙ c.is_none.ensures ∙ ap not c.if-is_none.false in
    subst (λ (o : Option (ApplierState Global)). AnswersWith c.args.answer c.args.self.now (record { base = base; applier = o }) (Err stop.OutOfMemory)) (sym c.take.ensures.after)
    (subst (λ (app : ApplicationState). AnswersWith c.args.answer app (record { base = base; applier = None }) (Err stop.OutOfMemory)) was (answers-over c.args.answer base s at))
