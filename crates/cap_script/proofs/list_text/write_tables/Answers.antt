use Rattle.std.proofs.Common.{◌++◌, ap, ◌∙◌, string_bytes}
use Rattle.cap_core.specs.declared.listed_table.ListedTable.{ListedTable}
use Rattle.cap_script.specs.ListText.{table_line}
use Rattle.cap_script.proofs.RowLemmas.{one_more_at}
use Rattle.cap_script.proofs.list_text.write_tables.Goals as goal

pub loop-table-preserved : goal.loop-table-preserved
loop-table-preserved g c =
    one_more_at table_line c.args.tables.now c.loop-table.table-index c.table-item.result (string_bytes c.loop-table.out) (string_bytes c.write_table.new.out) _ c.loop-table-test.true
    (c.in_ok-write_table.ensures ∙ ap (λ (x : ListedTable g.row.A.Denot). string_bytes c.loop-table.out ++ table_line x) c.table-item.is) c.loop-table.invariant
