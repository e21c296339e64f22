use Rattle.cap_tree.proofs.EntryLemmas.{length-take_entry, ordered_take, take_entry-Updates}
use Rattle.cap_tree.proofs.tree.Tree.remove.Goals as goal

pub returns-in-Ok-clause-updates : goal.returns-in-Ok-clause-updates
returns-in-Ok-clause-updates g c = rw c.in-Ok.ensures.ok (take_entry-Updates g.K.Ord.cmp g.met.K.Ord.total c.args.key.now c.args.self.now c.len-length.ensures.ordered)

pub returns-in-Ok-clause-len : goal.returns-in-Ok-clause-len
returns-in-Ok-clause-len g c = rw (c.in-Ok.ensures.ok, c.in-Ok.ensures.removed) (length-take_entry g.K.Ord.cmp c.args.key.now c.args.self.now)

pub returns-in-Ok-clause-ordered : goal.returns-in-Ok-clause-ordered
returns-in-Ok-clause-ordered g c = rw c.in-Ok.ensures.ok (ordered_take g.K.Ord.cmp g.met.K.Ord.total c.args.key.now c.args.self.now c.len-length.ensures.ordered)
