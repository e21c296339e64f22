use Rattle.std.proofs.Common.{ap, ◌∙◌}
use Rattle.cap_core.specs.Answer.{answer}
use Rattle.cap_core.specs.Transition.{next}
use Rattle.cap_core.proofs.NextLemmas.{state-push}
use Rattle.cap_core.proofs.LawLemmas.{fits_push}
use Rattle.cap_core.proofs.server.Core.prepare.Goals as goal

pub returns : goal.returns
returns g c =
    let command = c.args.command.now in
    let left = c.in_ok-reply.ensures.0 ∙ ap (λ s. next s command) c.in_ok-core.ensures in
    let answered = c.in_ok-reply.ensures.1 ∙ ap (λ s. answer s command) c.in_ok-core.ensures in
    let now = c.args.self.now in
    let core = c.run_command.new.self in
    let reply = c.in_ok-reply.reply in
    record {
      history = λ h by legal is. let p = state-push h by command now core reply legal is left answered in (p.0, p.1);
      legal = λ h by legal is. (state-push h by command now core reply legal is left answered).2;
      step = (left, answered);
      fits = λ h by fits. fits_push h by command reply fits c.blob_fits.ensures;
    }
