use Rattle.cap_compare.proofs.BesideLemmas.{beside-ordered, beside-get}
use Rattle.cap_compare.proofs.laws.entries_stand_beside.Goals as goal

pub returns-clause-ordered : goal.returns-clause-ordered
returns-clause-ordered g c first second = beside-ordered g.K.Ord.cmp g.met.K.Ord.total first second

pub returns-clause-each : goal.returns-clause-each
returns-clause-each g c first second = beside-get g.K.Ord.cmp g.met.K.Ord.total first second
