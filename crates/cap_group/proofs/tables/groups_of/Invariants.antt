use Rattle.std.proofs.Common.{◌≡◌, map, take}
use Rattle.cap_group.specs.ChangeGroup.{groups_of}
use Rattle.cap_group.specs.KeyedChanges.{keyed_of}
use Rattle.cap_group.proofs.tables.groups_of.Given as goal

abbrev pub invariant-loop-table : goal.invariant-loop-table
invariant-loop-table g l = l.list ≡ groups_of (map (keyed_of g.C.Combine.key g.C.Combine.combined) (take l.table-index l.tables))
