use Rattle.cap_txn.proofs.OrderedSetLemmas.{known-fewer}
use Rattle.cap_txn.proofs.ordered_set.OrderedSet.truncate.Goals as goal

pub invariant_of-self : goal.invariant_of-self
invariant_of-self g c = rw c.truncate.ensures.items (known-fewer g.K.Ord.cmp g.met.K.Ord.total c.self.inside.places 0 c.args.len c.self.inside.items.items c.self.invariant)
