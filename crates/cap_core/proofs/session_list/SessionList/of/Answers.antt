use Rattle.std.proofs.Common.{arith, ap, ◌∙◌}
use Rattle.std.proofs.lemmas.List.{take_all}
use Rattle.cap_core.specs.Listed.{listed_session, listed_sessions}
use Rattle.cap_core.proofs.session_list.SessionList.of.Goals as goal
use Rattle.cap_core.proofs.SmallLemmas.{list-each}

pub loop-number-preserved : goal.loop-number-preserved
loop-number-preserved g c =
    rw c.in_ok-push.ensures.items
    (list-each listed_session c.loop-number.list.items c.numbered-live.result.now c.loop-number.number-index c.loop-number-item.result c.in_ok-of.field-0
    (omega (arith, c.loop-number-test.true)) c.loop-number-item.is c.in_ok-of.ensures c.loop-number.invariant)

pub returns : goal.returns
returns g c = c.loop-number.invariant ∙ ap listed_sessions (take_all c.loop-number.number-index c.numbered-live.result.now c.loop-number-test.false) ∙ ap listed_sessions c.numbered-live.ensures
