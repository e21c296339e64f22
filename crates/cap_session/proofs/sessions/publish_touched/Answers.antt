use Rattle.std.proofs.Common.{ℕ, arith, ap, ◌∙◌}
use Rattle.cap_session.specs.Delta.{with_touched}
use Rattle.cap_session.specs.Records.{Records}
use Rattle.cap_session.proofs.PlaceLemmas.{last-beyond, last-set}
use Rattle.cap_session.proofs.sessions.publish_touched.Goals as goal

pub loop-place-preserved-then-place-len : goal.loop-place-preserved-then-place-len
loop-place-preserved-then-place-len g c =
    let own : ℕ × Records g.row.A.Denot = (c.in-Some.table, c.in-Some.records) in
    let d = c.index_mut.result.now in
    last-set with_touched c.loop-place.sessions.items c.pop.new.self.items c.loop-place.touched.items (c.in-Some.place, own) (d.0, c.replace.new.self) d c.in-Some.ensures.items
    (ap (λ s. (d.0, s)) c.replace.ensures ∙ ap (with_touched own) c.index_mut.ensures.value)
    ∙ c.loop-place.invariant

pub loop-place-preserved : goal.loop-place-preserved
loop-place-preserved g c =
    last-beyond with_touched c.loop-place.sessions.items c.pop.new.self.items c.loop-place.touched.items (c.in-Some.place, (c.in-Some.table, c.in-Some.records)) c.in-Some.ensures.items (omega (arith, c.if-place-len.false, c.len.ensures, c.loop-place.sessions.ok))
    ∙ c.loop-place.invariant
