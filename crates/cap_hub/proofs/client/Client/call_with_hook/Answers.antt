use Rattle.std.proofs.Common.{subst}
use Rattle.std.specs.Global.{Global}
use Rattle.cap_history.specs.Seen.{Seated}
use Rattle.cap_locked.specs.Fault.{HasCause}
use Rattle.cap_hub.proofs.client.Client.call_with_hook.Goals.{in-Ok, in-Err-Refused, in-Err-Call}
use Rattle.cap_hub.proofs.client.Client.call_with_hook.Goals as goal

pub returns-clause-cause : goal.returns-clause-cause
returns-clause-cause g c =
    elim c.match-answer.branch [
      | in-Ok w ↦ rw w.result-is tt
      | in-Err-Refused w ↦ rw w.result-is tt
      | in-Err-Call w ↦
          let cause = rw w.in-Err-Call.field-0-is at w.in-Err-Call.ensures.cause in
          rw w.result-is (subst (λ (s : Seated Global). HasCause w.in-Err-Call.fault s.state c.args.command.now) c.self.view_is cause)
    ]
