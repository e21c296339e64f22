use Rattle.std.proofs.Common.{take}
use Rattle.std.specs.Io.KnownBytes.{Appends}
use Rattle.std.specs.List.{flat_map}
use Rattle.cap_show.specs.Sql.{group_sql}
use Rattle.cap_show.proofs.sql.write_groups.Given as goal

abbrev pub invariant-loop-group : goal.invariant-loop-group
invariant-loop-group g l = Appends (g.W.Write.contents l.fn.output) (g.W.Write.contents l.output) (flat_map (group_sql g.C.SqlEntry.sql) (take l.group-index l.groups))
