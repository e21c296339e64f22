use Rattle.std.proofs.Common.{map, ap, ◌∙◌}
use Rattle.cap_session.specs.Delta.{renewed, with_parts, with_tables, with_touched}
use Rattle.cap_session.proofs.sessions.Sessions.publish.Goals as goal

pub returns : goal.returns
returns g c =
    let items = c.self.inside.sessions.items in
    let parts = c.into_parts-renewed in
    rw (← c.self.view_is)
    (c.publish_touched.ensures
    ∙ ap (λ xs. with_parts with_touched xs parts.result.1.items) (c.publish_renewed.ensures ∙ ap (with_parts with_tables items) (ap (map _) parts.ensures.0))
    ∙ ap (with_parts with_touched (with_parts with_tables items (renewed c.args.delta))) parts.ensures.1)
