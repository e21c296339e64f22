use Rattle.std.proofs.Common.{◌≡◌, ◌++◌, drop, map}
use Rattle.cap_applier.specs.Chosen.{number_in_blob}
use Rattle.cap_applier.proofs.numbering.numbers_in_blob.Given as goal

-- what was put, and what is left
abbrev pub invariant-loop-at : goal.invariant-loop-at
invariant-loop-at g l = l.whole.items ++ map (number_in_blob l.numbers) (drop l.at-index l.part) ≡ map (number_in_blob l.numbers) l.part
