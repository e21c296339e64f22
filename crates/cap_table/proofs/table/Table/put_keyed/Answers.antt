use Rattle.cap_table.proofs.TableLemmas.{put_keyed}
use Rattle.cap_table.proofs.table.Table.put_keyed.Goals as goal

pub invariant_of-self-2 : goal.invariant_of-self-2
invariant_of-self-2 g c = rw c.in_ok-before.ensures.ok (put_keyed _ c.args.key c.args.row c.self.invariant (rw (← c.self.view_is) at c.requires.width) (rw (← c.self.view_is) at c.requires.key))
