use Rattle.std.proofs.Common.{arith, ap, ◌∙◌}
use Rattle.cap_session.specs.Delta.{with_tables}
use Rattle.cap_session.proofs.PlaceLemmas.{last-beyond, last-set, mapped-push}
use Rattle.cap_session.proofs.sessions.publish_renewed.Goals as goal

pub loop-place-preserved-then-place-len : goal.loop-place-preserved-then-place-len
loop-place-preserved-then-place-len g c =
    let tables = c.in-Some.tables in
    let d = c.index_mut.result.now in
    last-set with_tables c.loop-place.sessions.items _ _ (c.in-Some.place, tables.entries) (d.0, c.renew.new.self) d
    (mapped-push (λ own. (own.0, own.1.entries)) c.pop.new.self.items c.loop-place.renewed.items (c.in-Some.place, tables) c.in-Some.ensures.items)
    (ap (λ s. (d.0, s)) c.renew.ensures ∙ ap (with_tables tables.entries) c.index_mut.ensures.value)
    ∙ c.loop-place.invariant

pub loop-place-preserved : goal.loop-place-preserved
loop-place-preserved g c =
    let tables = c.in-Some.tables in
    last-beyond with_tables c.loop-place.sessions.items _ _ (c.in-Some.place, tables.entries)
    (mapped-push (λ own. (own.0, own.1.entries)) c.pop.new.self.items c.loop-place.renewed.items (c.in-Some.place, tables) c.in-Some.ensures.items)
    (omega (arith, c.if-place-len.false, c.len.ensures, c.loop-place.sessions.ok))
    ∙ c.loop-place.invariant
