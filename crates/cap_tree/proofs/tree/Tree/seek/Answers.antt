use Rattle.std.proofs.Common.{ap, subst}
use Rattle.std.proofs.iter.runs.Sources.{from_front}
use Rattle.std.specs.BTreeMap.Range.{entries_below}
use Rattle.std.specs.Map.{values_of}
use Rattle.std.specs.Map.Iter.{TakesFirst, deref_pair}
use Rattle.std.specs.Prelude.{length}
use Rattle.cap_tree.specs.Root.{root_entries}
use Rattle.cap_tree.specs.Tree.{IsOrdered}
use Rattle.cap_tree.proofs.EntryLemmas.{children_at, ordered_rest}
use Rattle.cap_tree.proofs.tree.Tree.seek.Goals as goal

pub returns-clause-children : goal.returns-clause-children
returns-clause-children g c = rw (c.from_key.ensures, ← c.self.view_is) (children_at g.K.Ord.cmp g.met.K.Ord.total c.args.key.now (root_entries c.self.inside.root) c.self.invariant.1)

pub returns-clause-ordered : goal.returns-clause-ordered
returns-clause-ordered g c =
    let children = children_at g.K.Ord.cmp g.met.K.Ord.total c.args.key.now (root_entries c.self.inside.root) c.self.invariant.1 in
    rw c.from_key.ensures (ordered_rest g.K.Ord.cmp (entries_below (g.K.Ord.cmp c.args.key.now) (root_entries c.self.inside.root)) _ (subst (IsOrdered g.K.Ord.cmp) children c.self.invariant.1))

pub returns-clause-runs : goal.returns-clause-runs
returns-clause-runs g c = from_front (TakesFirst deref_pair) deref_pair (λ s. s) (λ s t h. ap length h.0) (λ s x t h. h)

pub returns-clause-values_run : goal.returns-clause-values_run
returns-clause-values_run g c = from_front (TakesFirst deref_pair) (λ x. (deref_pair x).1) values_of (λ s t h. ap (λ l. length (values_of l)) h.0) (λ s x t h. ap values_of h)
