use Rattle.std.proofs.Common.{◌∙◌, All, subst, sym}
use Rattle.logbook.specs.Pages.{Book}
use Rattle.cap_hub.specs.Code.Held.{IsFree}
use Rattle.cap_locked.proofs.Causes.{cause_of}
use Rattle.cap_hub.proofs.held.Held.step.Goals as goal

pub invariant_of-self : goal.invariant_of-self
invariant_of-self c =
    (c.step.ensures.seats ∙ c.self.invariant.0, c.self.invariant.1, subst (λ (b : Book). All (IsFree b) c.self.inside.free.items) (sym c.step.ensures.history.0) c.self.invariant.2)

pub returns-clause-cause : goal.returns-clause-cause
returns-clause-cause c = cause_of c.step.result _ c.args.seat.now.state c.args.command.now c.step.ensures.cause
