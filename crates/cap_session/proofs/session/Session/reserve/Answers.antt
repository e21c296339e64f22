use Rattle.std.proofs.Common.{refl, sym, ap, ◌∙◌}
use Rattle.std.proofs.lemmas.Result.{on_ok_weaker}
use Rattle.cap_session.specs.declared.delta.Delta.{Delta}
use Rattle.cap_session.specs.Recording.{record_commit, touch_tables}
use Rattle.cap_session.specs.Session.{AttachedTables, SessionState}
use Rattle.cap_session.proofs.AddedLemmas.{adds-all, adds-own, commits}
use Rattle.cap_session.proofs.PlaceLemmas.{mapped-push}
use Rattle.cap_session.proofs.session.Session.reserve.Goals as goal

pub returns-then-is_any_new-clause-added : goal.returns-then-is_any_new-clause-added
returns-then-is_any_new-clause-added g c =
    let now = c.args.self.now in
    let old = c.args.delta.now in
    let new : Delta g.row.A.Denot = record { renewed = c.push.new.self; touched = old.touched } in
    let tables = c.in_ok-committed.field-0 in
    adds-all c.args.place now (record_commit c.args.changes.now now) old new tables.entries
    (ap (λ (ts : AttachedTables g.row.A.Denot). record now { tables = ts }) c.in_ok-committed.ensures
    ∙ commits c.args.changes.now now (sym (ap (λ (s : SessionState g.row.A.Denot). s.enabled) c.self.view_is) ∙ c.if-not-self.false))
    (mapped-push _ old.renewed.items new.renewed.items (c.args.place, tables) c.in_ok-push.ensures.items) refl

pub returns-clause-added : goal.returns-clause-added
returns-clause-added g c =
    let own = c.self.inside in
    let session : SessionState g.row.A.Denot = record { enabled = own.enabled; indirect = own.indirect; rule = own.rule; tables = own.tables.entries } in
    let changes = c.args.changes.now in
    let old = c.args.delta.now in
    let new : Delta g.row.A.Denot = record { renewed = old.renewed; touched = c.reserve_touches.new.touched } in
    rw (← c.self.view_is) (on_ok_weaker c.reserve_touches.result
    (adds-own c.args.place session (record_commit changes session) old new (touch_tables own.indirect changes own.tables.entries)
    (ap (λ (ts : AttachedTables g.row.A.Denot). record session { tables = touch_tables own.indirect changes ts }) (sym (c.is_any_new.ensures c.if-is_any_new.false)) ∙ commits changes session c.if-not-self.false) refl)
    c.reserve_touches.ensures.touched)
