use Rattle.std.proofs.Common.{◌≡◌, Option, None, refl, sym, subst, ◌∙◌}
use Rattle.cap_value.specs.Memory.{AnswersUnlessMemory}
use Rattle.cap_filter.specs.Rule.{Rule}
use Rattle.cap_apply.specs.Apply as whole
use Rattle.cap_applier.specs.Applier.{begun}
use Rattle.cap_applier.specs.Remaining.{AcceptsAll, remaining}
use Rattle.cap_test_sessions.proofs.answered.answered_by_a_policy.Goals as goal

every : AcceptsAll None
every name = refl

pub returns : goal.returns
returns g c =
    let law = c.answers_of_a_policy_apply_the_blob.ensures in
    let start = begun c.args.database.now c.args.blob None in
    let way = law.between c.args.policy start c.in_ok-new.field-0 every c.in_ok-new.ensures in
    let same : remaining c.args.policy c.in_ok-new.field-0 ≡ whole.apply c.args.database.now c.args.blob c.args.policy = way.0 ∙ law.first c.args.database.now c.args.blob c.args.policy in
    subst (AnswersUnlessMemory c.answer_all.result) same (c.answer_all.ensures (subst AcceptsAll (sym way.1) every))
