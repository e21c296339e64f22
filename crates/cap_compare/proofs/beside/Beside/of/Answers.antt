use Rattle.std.proofs.Common.{ap}
use Rattle.std.proofs.iter.runs.Sources.{from_front}
use Rattle.std.specs.Map.Iter.{TakesFirst}
use Rattle.std.specs.Prelude.{length}
use Rattle.cap_compare.specs.Beside.{values_beside}
use Rattle.cap_compare.proofs.BesideLemmas.{beside-ordered, beside-get}
use Rattle.cap_compare.proofs.beside.Beside.of.Goals as goal

pub returns-clause-ordered : goal.returns-clause-ordered
returns-clause-ordered g c =
    rw (c.of.ensures, c.of-2.ensures, c.iter.ensures.rest, c.iter-2.ensures.rest) (beside-ordered g.K.Ord.cmp g.met.K.Ord.total c.args.first.now c.args.second.now c.iter.ensures.ordered)

pub returns-clause-each : goal.returns-clause-each
returns-clause-each g c key =
    rw (c.of.ensures, c.of-2.ensures, c.iter.ensures.rest, c.iter-2.ensures.rest) (beside-get g.K.Ord.cmp g.met.K.Ord.total c.args.first.now c.args.second.now c.iter-2.ensures.ordered key)

pub returns-clause-runs : goal.returns-clause-runs
returns-clause-runs g c = from_front (TakesFirst values_beside) values_beside (λ s. s) (λ s t h. ap length h.0) (λ s x t h. h)
