use Rattle.cap_value.specs.Value.{value_eq_decides}
use Rattle.cap_value.proofs.value.Value.same.Goals as goal

pub returns : goal.returns
returns g c = rw c.eq.ensures (value_eq_decides c.args.self.now c.args.other.now)
