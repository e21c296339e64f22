use Rattle.std.proofs.Common.{◌≡◌, ◌∙◌, Option, Some, sym, ap, subst}
use Rattle.std.specs.Prelude.{IfSome}
use Rattle.std.specs.Global.{Global}
use Rattle.cap_database.specs.Tables.{EachRises, Tables}
use Rattle.cap_txn.specs.Batch.{BatchState}
use Rattle.cap_txn.specs.Transaction.{batch_of}
use Rattle.cap_apply.specs.Applied.{AppliedState}
use Rattle.cap_applier.specs.Applier.{ApplierState}
use Rattle.cap_applier.specs.Looked.{KeepsTo}
use Rattle.cap_connection.specs.Application.{ApplicationState, MakesItsRows}
use Rattle.cap_connection.proofs.ApplicationLemmas.{makes-rows}
use Rattle.cap_connection.proofs.application.Application.batch.Goals as goal

pub returns-in-Ok-clause-left : goal.returns-in-Ok-clause-left
returns-in-Ok-clause-left c =
    let base = c.self.inside.base in
    let s = c.in-Some.applier in
    let txn = c.in-Ok.txn in
    let law = c.a_transaction_leaves_what_the_application_left.ensures in
    let keeps : KeepsTo base.database s = subst (λ (o : Option (ApplierState Global)). IfSome o (KeepsTo base.database)) c.in-Some.is c.self.invariant in
    let each : EachRises base.database = subst (λ (tables : Tables Global). EachRises tables) c.database.ensures c.sound_rows_law.ensures in
    let left_is : c.database-2.result.now ≡ s.progress.applied.database = c.database-2.ensures ∙ ap (λ (a : AppliedState Global). a.database) c.applied.ensures in
    let lefts : EachRises s.progress.applied.database = subst (λ (tables : Tables Global). EachRises tables) left_is c.sound_rows_law-2.ensures in
    let makes = makes-rows base s txn (law.accepted base s txn c.in-Ok.ensures) (law.rows base s txn each lefts keeps c.in-Ok.ensures) in
    let was : record { base = base; applier = Some s } ≡ c.args.self.now =
    ap (λ (o : Option (ApplierState Global)). record { base = base; applier = o }) (sym c.in-Some.is) ∙ c.self.view_is in
    subst (λ (batch : BatchState Global). MakesItsRows c.args.self.now batch) (sym c.into_batch.ensures)
    (subst (λ (app : ApplicationState). MakesItsRows app (batch_of txn)) was makes)
