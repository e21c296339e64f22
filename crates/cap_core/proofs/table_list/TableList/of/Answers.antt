use Rattle.std.proofs.Common.{arith, ap, ◌∙◌}
use Rattle.std.proofs.lemmas.List.{take_all}
use Rattle.cap_core.specs.Listed.{listed_table, listed_tables}
use Rattle.cap_core.proofs.table_list.TableList.of.Goals as goal
use Rattle.cap_core.proofs.SmallLemmas.{list-each}

pub loop-named-preserved : goal.loop-named-preserved
loop-named-preserved g c =
    rw c.in_ok-push.ensures.items
    (list-each listed_table c.loop-named.list.items c.tables-tables.result.now c.loop-named.named-index c.named-item.result c.in_ok-table.table
    (omega (arith, c.loop-named-test.true)) c.named-item.is c.in_ok-table.ensures c.loop-named.invariant)

pub returns : goal.returns
returns g c = c.loop-named.invariant ∙ ap (λ (xs : _). listed_tables xs) (take_all c.loop-named.named-index c.tables-tables.result.now c.loop-named-test.false) ∙ ap listed_tables c.tables-tables.ensures
