use Rattle.cap_changes.proofs.GroupLemmas.{Inverted}
use Rattle.cap_changes.proofs.inverse.write_inverses.Given as goal

abbrev pub invariant-loop-end : goal.invariant-loop-end
invariant-loop-end g l = Inverted g.row.A.Denot l.flags l.fn.bytes l.ends l.end-index l.begin l.bytes
