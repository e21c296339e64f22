use Rattle.std.specs.List.{flat_map}
use Rattle.cap_show.proofs.TextLemmas.{AppendedSoFar}
use Rattle.cap_show.proofs.list.write_lines.Given as goal

abbrev pub invariant-loop-change : goal.invariant-loop-change
invariant-loop-change g l = AppendedSoFar (g.W.Write.contents l.fn.output) (g.W.Write.contents l.output) (flat_map g.C.TextEntry.text l.change-iterator) (flat_map g.C.TextEntry.text l.fn.changes)
