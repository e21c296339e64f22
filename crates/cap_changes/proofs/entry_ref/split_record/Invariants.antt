use Rattle.cap_changes.proofs.LeftLemmas.{Passed}
use Rattle.cap_changes.proofs.entry_ref.split_record.Given as goal

abbrev pub invariant-loop-column : goal.invariant-loop-column
invariant-loop-column g l = Passed g.row.A.Denot l.bytes l._column l.rest
