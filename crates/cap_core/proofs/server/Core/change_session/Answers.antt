use Rattle.std.proofs.Common.{arith, ap, ◌∙◌}
use Rattle.cap_core.specs.Code.Sound.{are_own_sessions}
use Rattle.cap_core.proofs.server.Core.change_session.Goals as goal
use Rattle.cap_session.specs.Session.{changed_by}
use Rattle.cap_core.proofs.SoundLemmas.{change-stands, changed-stands}

pub invariant_of-self : goal.invariant_of-self
invariant_of-self g c = (
  omega (arith, c.self.invariant.0),
  omega (arith, c.self.invariant.1),
  ap (are_own_sessions c.self.inside.main) c.change-2.ensures
      ∙ changed-stands c.self.inside.main c.args.number (changed_by c.args.change) (change-stands c.self.inside.main c.args.change) c.self.inside.sessions c.self.invariant.2,
)
