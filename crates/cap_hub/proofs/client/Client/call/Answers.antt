use Rattle.std.proofs.Common.{subst}
use Rattle.std.specs.Global.{Global}
use Rattle.cap_history.specs.Seen.{Seated}
use Rattle.cap_locked.specs.Fault.{HasCause}
use Rattle.cap_hub.proofs.client.Client.call.Goals.{in-Ok, in-Err}
use Rattle.cap_hub.proofs.client.Client.call.Goals as goal

pub returns-clause-cause : goal.returns-clause-cause
returns-clause-cause c =
    elim c.match-answer.branch [
      | in-Ok w ↦ rw w.result-is tt
      | in-Err w ↦ rw w.result-is (subst (λ (s : Seated Global). HasCause w.in-Err.fault s.state c.args.command.now) c.self.view_is w.in-Err.ensures.cause)
    ]
