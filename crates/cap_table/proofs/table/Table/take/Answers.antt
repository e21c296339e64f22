use Rattle.cap_table.proofs.TableLemmas.{take_loose}
use Rattle.cap_table.proofs.table.Table.take.Goals as goal

pub invariant_of-self-in-Loose : goal.invariant_of-self-in-Loose
invariant_of-self-in-Loose g c = rw c.in_ok-before-in-Loose.ensures.ok (take_loose _ _ c.self.invariant)
