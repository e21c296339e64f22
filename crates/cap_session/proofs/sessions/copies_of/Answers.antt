use Rattle.std.proofs.Common.{◌++◌, ◌∷◌, [], add-one, arith, sym, ap, ap₂, take, ◌∙◌}
use Rattle.std.proofs.Math.Seq.{take-suc}
use Rattle.std.proofs.lemmas.List.{take_all}
use Rattle.cap_session.proofs.sessions.copies_of.Goals as goal

pub loop-session-preserved : goal.loop-session-preserved
loop-session-preserved g c =
    let xs = c.args.sessions.now in
    let i = c.loop-session.session-index in
    let d = c.session-item.result in
    rw c.in_ok-push.ensures.items
    (ap₂ (λ a b. a ++ b ∷ []) c.loop-session.invariant (ap (λ s. (d.0, s)) c.in_ok-copy.ensures ∙ c.session-item.is)
    ∙ sym (ap (λ n. take n xs) (add-one i) ∙ take-suc xs i d (omega (arith, c.loop-session-test.true))))

pub returns : goal.returns
returns g c = c.loop-session.invariant ∙ take_all c.loop-session.session-index c.args.sessions.now c.loop-session-test.false
