use Rattle.std.proofs.Common.{length}
use Rattle.cap_changes.proofs.ChangeLoops.{Goes}
use Rattle.cap_changes.proofs.group.judge.Given as goal

abbrev pub invariant-loop-rest : goal.invariant-loop-rest
invariant-loop-rest g l = Goes g.C.Entry.fits_in g.C.Entry.has_values g.C.Entry.bytes_of g.C.Entry.stored g.C.Entry.one_at l.total l.flags l.held l.fn.ends.items l.fn.bytes l.rest l.ends.items

abbrev pub decreases-loop-rest : goal.decreases-loop-rest
decreases-loop-rest g l = length l.rest
