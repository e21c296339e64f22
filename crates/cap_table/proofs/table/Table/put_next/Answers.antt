use Rattle.std.proofs.Common.{arith}
use Rattle.cap_table.proofs.TableLemmas.{put_next}
use Rattle.cap_table.proofs.table.Table.put_next.Goals as goal

pub invariant_of-self-2 : goal.invariant_of-self-2
invariant_of-self-2 g c = rw c.in_ok-insert.ensures.ok (put_next _ c.args.row c.self.invariant (omega arith) (rw (← c.self.view_is) at c.requires.width) (rw (← c.self.view_is) at c.requires.key))
