use Rattle.std.proofs.Common.{◌≡◌, ◌++◌, drop, map}
use Rattle.cap_applier.specs.Chosen.{conflict_in_blob}
use Rattle.cap_applier.proofs.numbering.conflicts_in_blob.Given as goal

-- what was put, and what is left
abbrev pub invariant-loop-conflict : goal.invariant-loop-conflict
invariant-loop-conflict g l = l.whole.items ++ map (conflict_in_blob l.numbers) (drop l.conflict-index l.conflicts) ≡ map (conflict_in_blob l.numbers) l.conflicts
