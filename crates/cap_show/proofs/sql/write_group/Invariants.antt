use Rattle.std.specs.List.{flat_map}
use Rattle.cap_show.specs.Sql.{group_sql}
use Rattle.cap_show.proofs.TextLemmas.{AppendedSoFar}
use Rattle.cap_show.proofs.sql.write_group.Given as goal

abbrev pub invariant-loop-change : goal.invariant-loop-change
invariant-loop-change g l = AppendedSoFar (g.W.Write.contents l.fn.output) (g.W.Write.contents l.output) (flat_map (g.C.SqlEntry.sql l.group.table l.group.schema) l.change-iterator) (group_sql g.C.SqlEntry.sql l.group)
