use Rattle.std.proofs.Common.{length}
use Rattle.cap_script.proofs.FirstLemmas.{SoFar}
use Rattle.cap_script.proofs.KeptLemmas.{Keeps}
use Rattle.cap_script.proofs.lines.Lines.new.Given as goal

abbrev pub invariant-loop-kept : goal.invariant-loop-kept
invariant-loop-kept g l = SoFar g.row.A.Denot l.rest.number l.rest.text.now l.text × Keeps l.most l.kept.items l.rest.text.now l.text

abbrev pub decreases-loop-kept : goal.decreases-loop-kept
decreases-loop-kept g l = length l.rest.text.now
