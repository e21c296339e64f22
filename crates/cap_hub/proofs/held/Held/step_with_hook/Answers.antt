use Rattle.std.proofs.Common.{◌∙◌, All, subst, sym}
use Rattle.logbook.specs.Pages.{Book}
use Rattle.cap_hub.specs.Code.Held.{IsFree}
use Rattle.cap_locked.proofs.Hooks.{caused_after_some, left_after_some}
use Rattle.cap_hub.proofs.held.Held.step_with_hook.Goals as goal

pub invariant_of-self : goal.invariant_of-self
invariant_of-self g c =
    (c.step_with_hook.ensures.seats ∙ c.self.invariant.0, c.self.invariant.1, subst (λ (b : Book). All (IsFree b) c.self.inside.free.items) (sym c.step_with_hook.ensures.history.0) c.self.invariant.2)

pub returns-clause-hook : goal.returns-clause-hook
returns-clause-hook g c =
    left_after_some c.step_with_hook.result g.C.CommitHook.gives c.self.inside.locked.log c.args.command.now c.args.hook.now c.step_with_hook.new.hook c.events-events.ensures.history c.step_with_hook.ensures.hook

pub returns-clause-cause : goal.returns-clause-cause
returns-clause-cause g c = caused_after_some _ _ c.args.seat.now.state c.args.command.now c.step_with_hook.ensures.cause
