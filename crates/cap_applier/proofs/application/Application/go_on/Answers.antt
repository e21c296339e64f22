use Rattle.std.proofs.Common.{◌≡◌, zero, suc, None, refl, sym, ◌∙◌}
use Rattle.cap_applier.specs.Applier.{met}
use Rattle.cap_applier.proofs.application.Application.go_on.Goals as goal

pub loop-init : goal.loop-init
loop-init g c = (zero, refl)

pub loop-preserved : goal.loop-preserved
loop-preserved g c =
    let none : met c.loop.self ≡ None = sym c.in_ok-conflict.ensures ∙ c.in-None.is in
    (suc c.loop.invariant.0, (c.loop.self, c.loop.invariant.1, none, c.in_ok-make_next-in-None.ensures))
