use Rattle.std.proofs.Common.{ap}
use Rattle.std.proofs.iter.runs.Sources.{from_front}
use Rattle.std.specs.Map.{values_of}
use Rattle.std.specs.Map.Iter.{TakesFirst, deref_pair}
use Rattle.std.specs.Prelude.{length}
use Rattle.cap_tree.proofs.EntryLemmas.{each_found}
use Rattle.cap_tree.proofs.tree.Tree.iter.Goals as goal

pub returns-clause-runs : goal.returns-clause-runs
returns-clause-runs g c = from_front (TakesFirst deref_pair) deref_pair (λ s. s) (λ s t h. ap length h.0) (λ s x t h. h)

pub returns-clause-values_run : goal.returns-clause-values_run
returns-clause-values_run g c = from_front (TakesFirst deref_pair) (λ x. (deref_pair x).1) values_of (λ s t h. ap (λ l. length (values_of l)) h.0) (λ s x t h. ap values_of h)

pub returns-clause-found : goal.returns-clause-found
returns-clause-found g c = each_found g.K.Ord.cmp g.met.K.Ord.total c.args.self.now (rw (← c.self.view_is) c.self.invariant.1)
