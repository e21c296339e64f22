use Rattle.std.proofs.Common.{◌≡◌, Option, Some, Ok, refl, sym, subst, ◌∙◌}
use Rattle.std.specs.Prelude.{IfNone}
use Rattle.cap_apply.specs.declared.policy.Answer.{Answer}
use Rattle.cap_applier.specs.Applier.{IsAtEnd, met}
use Rattle.cap_applier.specs.Reach.{IsReached}
use Rattle.cap_applier.specs.Remaining.{AcceptsAll, remaining}
use Rattle.cap_applier.specs.declared.row_conflict.RowConflict.{RowConflict}
use Rattle.cap_applier.proofs.PolicyLemmas.{Agrees, FollowsFrom, agreed, answer-follows, last-of, policy-refused, reached-follows}
use Rattle.cap_applier.proofs.application.Application.answer_all.Goals as goal

pub loop-init : goal.loop-init
loop-init g c = λ all. (refl, refl)

pub returns-in-None : goal.returns-in-None
returns-in-None g c = λ all.
    let policy = c.args.policy in
    let inv = c.loop.invariant all in
    let all_here : AcceptsAll c.loop.self.filter = subst AcceptsAll (sym inv.1) all in
    let way : IsReached c.loop.self c.go_on.new.self = c.in_ok-go_on.ensures.reached in
    let on = reached-follows policy c.loop.self all_here way.0 c.go_on.new.self way.1 in
    let end : IsAtEnd c.go_on.new.self = subst (λ (o : Option (RowConflict g.row.A.Denot)). IfNone o (IsAtEnd c.go_on.new.self)) c.in-None.is c.in_ok-go_on.ensures.end in
    sym inv.0 ∙ sym on.0 ∙ last-of policy c.go_on.new.self end

pub returns-in-Err : goal.returns-in-Err
returns-in-Err g c = λ all.
    let policy = c.args.policy in
    let inv = c.loop.invariant all in
    let all_here : AcceptsAll c.loop.self.filter = subst AcceptsAll (sym inv.1) all in
    let way : IsReached c.loop.self c.go_on.new.self = c.in_ok-go_on.ensures.reached in
    let on = reached-follows policy c.loop.self all_here way.0 c.go_on.new.self way.1 in
    let all_there : AcceptsAll c.go_on.new.self.filter = subst AcceptsAll (sym on.1) all_here in
    let is : met c.go_on.new.self ≡ Some c.in-Some.conflict = sym c.in_ok-go_on.ensures.met ∙ c.in-Some.is in
    let agrees : Agrees policy c.answer.result (met c.go_on.new.self) = subst (λ (a : Answer). Agrees policy a (met c.go_on.new.self)) (sym c.answer.ensures) (agreed policy c.go_on.new.self c.in-Some.conflict is) in
    policy-refused (Unit {0}) (Unit {0}) policy c.answer.result c.go_on.new.self (remaining policy c.args.self.now) c.in-Err.fault c.answer-in-Some.new.self c.answer-in-Some.new.self.progress.applied
    (on.0 ∙ inv.0) (answer-follows policy c.answer.result c.go_on.new.self all_there agrees) c.in-Err.ensures

pub loop-preserved : goal.loop-preserved
loop-preserved g c = λ all.
    let policy = c.args.policy in
    let inv = c.loop.invariant all in
    let all_here : AcceptsAll c.loop.self.filter = subst AcceptsAll (sym inv.1) all in
    let way : IsReached c.loop.self c.go_on.new.self = c.in_ok-go_on.ensures.reached in
    let on = reached-follows policy c.loop.self all_here way.0 c.go_on.new.self way.1 in
    let all_there : AcceptsAll c.go_on.new.self.filter = subst AcceptsAll (sym on.1) all_here in
    let is : met c.go_on.new.self ≡ Some c.in-Some.conflict = sym c.in_ok-go_on.ensures.met ∙ c.in-Some.is in
    let agrees : Agrees policy c.answer.result (met c.go_on.new.self) = subst (λ (a : Answer). Agrees policy a (met c.go_on.new.self)) (sym c.answer.ensures) (agreed policy c.go_on.new.self c.in-Some.conflict is) in
    let one : FollowsFrom policy c.go_on.new.self (Ok c.answer-in-Some.new.self) = subst (FollowsFrom policy c.go_on.new.self) c.in-Ok.ensures (answer-follows policy c.answer.result c.go_on.new.self all_there agrees) in
    (one.0 ∙ on.0 ∙ inv.0, one.1 ∙ on.1 ∙ inv.1)
