use Rattle.std.proofs.Common.{sym, ◌∙◌}
use Rattle.cap_table.proofs.BackLemmas.{moved-apart}
use Rattle.cap_table.proofs.table.Table.move_row.Goals as goal

pub returns-then-ne-clause-table : goal.returns-then-ne-clause-table
returns-then-ne-clause-table g c =
    let apart = sym c.ne.ensures ∙ c.if-ne.true in
    rw (c.in-Key-Some.is-0, c.in-Key-Some.is-1) (rw (moved-apart c.args.self.now c.in-Key-Some.old c.in-Key-Some.new c.args.row apart) (rw c.in-Key-Some.is-0 at c.replace.ensures.table))
