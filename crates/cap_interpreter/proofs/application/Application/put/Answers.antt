use Rattle.std.proofs.Common.{◌∙◌, ap, sym}
use Rattle.std.specs.Prelude.{is_some}
use Rattle.cap_interpreter.proofs.application.Application.put.Goals as goal

pub invariant_of-result : goal.invariant_of-result
invariant_of-result g c = (c.self.invariant.0 ∙ ap is_some (sym c.in_ok-applier.ensures.filter), c.in_ok-applier.ensures.keeps c.self.inside.base.database c.self.invariant.1)
