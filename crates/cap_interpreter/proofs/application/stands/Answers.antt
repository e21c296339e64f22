use Rattle.std.proofs.Common.{◌∙◌}
use Rattle.cap_applier.specs.Applier.{IsAtEnd}
use Rattle.cap_interpreter.proofs.StopLemmas.{stand_end}
use Rattle.cap_interpreter.proofs.application.stands.Goals as goal

pub returns : goal.returns
returns g c = λ none. stand_end c.conflict-found.result (IsAtEnd c.args.applier.now) (c.conflict-found.ensures.conflict ∙ none) c.conflict-found.ensures.end
