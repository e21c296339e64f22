use Rattle.cap_codec.specs.declared.read.Contents.TheVariants.{Changes}
use Rattle.cap_test_convergence.proofs.ExplainedLemmas.{is-either, is-refused}
use Rattle.cap_test_convergence.proofs.synchronisation.applied_at.Goals as goal

pub returns-in-Refused-clause-hindered : goal.returns-in-Refused-clause-hindered
returns-in-Refused-clause-hindered g c =
    is-refused c.args.core.now (Changes c.args.list) c.args.policy c.in-Refused._at c.in-Refused.why (rw (c.in-Refused.is, c.none.ensures) at c.in_ok-core.ensures.step.replied)

pub returns-in_default : goal.returns-in_default
returns-in_default g c = record {
  step = tt;
  hindered = is-either c.args.core.now (Changes c.args.list) c.args.policy c.in_ok-core.field-0.reply (rw c.none.ensures at c.in_ok-core.ensures.step.replied)
      ((λ version report is. c.in_default.not-Applied version report is), (λ at reason is. c.in_default.not-Refused at reason is));
}
