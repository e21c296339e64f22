use Rattle.cap_tree.proofs.EntryLemmas.{length-put_entry, ordered_put, put_entry-Updates}
use Rattle.cap_tree.proofs.tree.Tree.insert.Goals as goal

pub returns-in-Ok-clause-updates : goal.returns-in-Ok-clause-updates
returns-in-Ok-clause-updates g c = rw c.in-Ok.ensures.ok (put_entry-Updates g.K.Ord.cmp g.met.K.Ord.total c.args.key c.args.value c.args.self.now)

pub returns-in-Ok-clause-len : goal.returns-in-Ok-clause-len
returns-in-Ok-clause-len g c = rw (c.in-Ok.ensures.ok, c.in-Ok.ensures.replaced) (length-put_entry g.K.Ord.cmp g.met.K.Ord.total c.args.key c.args.value c.args.self.now c.len-length.ensures.ordered)

pub returns-in-Ok-clause-ordered : goal.returns-in-Ok-clause-ordered
returns-in-Ok-clause-ordered g c = rw c.in-Ok.ensures.ok (ordered_put g.K.Ord.cmp g.met.K.Ord.total c.args.key c.args.value c.args.self.now c.len-length.ensures.ordered)
