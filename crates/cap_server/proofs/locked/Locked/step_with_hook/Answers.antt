use Rattle.std.proofs.Common.{subst}
use Rattle.std.specs.Prelude.{⊤, IfErr}
use Rattle.cap_history.specs.Seat.{SeatState}
use Rattle.cap_locked.proofs.Hooks.{caused_after_some, left_after_some}
use Rattle.cap_locked.specs.Fault.{HasCause, MatchHookFault}
use Rattle.cap_server.proofs.locked.Locked.step_with_hook.Goals as goal

pub returns-clause-hook : goal.returns-clause-hook
returns-clause-hook g c =
    left_after_some c.step_with_hook.result g.C.CommitHook.gives c.self.inside.locked.log c.args.command.now c.args.hook.now c.step_with_hook.new.hook c.events-events.ensures.history c.step_with_hook.ensures.hook

pub returns-clause-cause : goal.returns-clause-cause
returns-clause-cause g c =
    let caused = caused_after_some _ _ c.seat.inside.seat.state c.args.command.now c.step_with_hook.ensures.cause in
    subst (λ (s : SeatState g.row.A.Denot). IfErr c.step_with_hook.result (λ fault. MatchHookFault fault (λ why. ⊤) (λ fault. HasCause fault s c.args.command.now))) c.seat.view_is caused
