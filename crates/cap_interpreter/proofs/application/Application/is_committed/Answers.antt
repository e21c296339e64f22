use Rattle.std.proofs.Common.{◌≡◌, ◌∙◌, Err, sym, ap, subst}
use Rattle.cap_database.specs.Tables.{EachRises, Tables}
use Rattle.cap_apply.specs.Applied.{AppliedState}
use Rattle.cap_interpreter.specs.Application.{ApplicationState, transaction_left}
use Rattle.cap_interpreter.proofs.application.Application.is_committed.Goals as goal

pub returns : goal.returns
returns g c = λ why is.
    let base = c.self.inside.base in
    let s = c.self.inside.applier in
    let law = c.a_transaction_leaves_what_the_application_left.ensures in
    let each : EachRises base.database = subst (λ (tables : Tables g.row.A.Denot). EachRises tables) c.database.ensures c.sound_rows_law.ensures in
    let left_is : c.database-2.result.now ≡ s.progress.applied.database = c.database-2.ensures ∙ ap (λ (a : AppliedState g.row.A.Denot). a.database) c.applied.ensures in
    let lefts : EachRises s.progress.applied.database = subst (λ (tables : Tables g.row.A.Denot). EachRises tables) left_is c.sound_rows_law-2.ensures in
    law.refused base s why each lefts c.self.invariant.1 (subst (λ (app : ApplicationState g.row.A.Denot). transaction_left app ≡ Err why) (sym c.self.view_is) is)
