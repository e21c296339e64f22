use Rattle.std.proofs.Common.{ap, ◌∙◌}
use Rattle.cap_session.specs.Recording.{touch_table, touches_found}
use Rattle.cap_session.specs.Session.{AttachedTables, SessionState, attach}
use Rattle.cap_session.proofs.session.Session.compared.Goals as goal

pub returns : goal.returns
returns g c =
    let own = c.self.inside in
    let session : SessionState g.row.A.Denot = record { enabled = own.enabled; indirect = own.indirect; rule = own.rule; tables = own.tables.entries } in
    rw (← c.self.view_is) (ap (λ (tables : AttachedTables g.row.A.Denot). record session { tables = tables })
    (c.in_ok-touch_found.ensures ∙ ap (touch_table c.args.name.now (touches_found own.indirect c.args.differences.now)) (c.in_ok-attach_by.ensures ∙ ap (attach c.args.name.now) c.in_ok-tables.ensures)))
