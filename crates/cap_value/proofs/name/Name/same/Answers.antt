use Rattle.std.proofs.lemmas.Slice.Eq.{bytes_eq-Decides}
use Rattle.cap_value.proofs.name.Name.same.Goals as goal

pub returns : goal.returns
returns g c = rw c.eq.ensures (bytes_eq-Decides c.args.self.now c.args.other.now)
