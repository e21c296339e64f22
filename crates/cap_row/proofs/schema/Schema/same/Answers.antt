use Rattle.std.specs.Cmp.{booleans_Decides}
use Rattle.std.proofs.lemmas.Slice.Eq.{slice_eq-Decides}
use Rattle.cap_row.proofs.schema.Schema.same.Goals as goal

pub returns : goal.returns
returns g c = slice_eq-Decides booleans_Decides c.args.self.now c.args.other.now _ c.eq.ensures
