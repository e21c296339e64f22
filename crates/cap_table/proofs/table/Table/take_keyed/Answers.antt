use Rattle.cap_table.proofs.TableLemmas.{take_keyed}
use Rattle.cap_table.proofs.table.Table.take_keyed.Goals as goal

pub invariant_of-self-2 : goal.invariant_of-self-2
invariant_of-self-2 g c = rw c.in_ok-before.ensures.ok (take_keyed _ c.args.key.now c.self.invariant)
