use Rattle.cap_table.proofs.TableLemmas.{given_from_1, put_loose, was_given}
use Rattle.cap_table.proofs.table.Table.put_back.Goals as goal

pub invariant_of-self-2 : goal.invariant_of-self-2
invariant_of-self-2 g c =
    let there = rw (← c.self.view_is) at c.requires.there in
    let h = c.self.invariant in
    rw c.in_ok-insert.ensures.ok (put_loose _ c.args.id c.args.row h (given_from_1 _ c.args.id h there) (was_given _ c.args.id h there) (rw (← c.self.view_is) at c.requires.width) (rw (← c.self.view_is) at c.requires.key))
