use Rattle.std.proofs.Common.{◌≡◌, take}
use Rattle.cap_core.specs.Listed.{listed_tables}
use Rattle.cap_core.proofs.table_list.TableList.of.Given as goal

abbrev pub invariant-loop-named : goal.invariant-loop-named
invariant-loop-named g l = l.list.items ≡ listed_tables (take l.named-index l.tables)
