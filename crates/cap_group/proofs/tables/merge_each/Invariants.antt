use Rattle.std.proofs.Common.{◌≡◌, map}
use Rattle.cap_group.specs.KeyedChanges.{keyed_of}
use Rattle.cap_group.proofs.tables.merge_each.Given as goal

abbrev pub invariant-loop-number : goal.invariant-loop-number
invariant-loop-number g l = map (keyed_of g.C.Combine.key g.C.Combine.combined) l.tables ≡ map (keyed_of g.C.Combine.key g.C.Combine.combined) l.fn.tables
