use Rattle.std.proofs.Common.{◌++◌, Bool, List, length}
use Rattle.cap_script.specs.FirstRefused.{IsFirstRefused}
use Rattle.cap_script.specs.LineLimits.{AreWithinLimits}
use Rattle.cap_script.specs.Script.{ScriptSpelled, SpellsScript}
use Rattle.cap_script.specs.declared.fault.ScriptFault.{ScriptFault}
use Rattle.cap_script.specs.declared.line.Line.{Line}
use Rattle.cap_script.proofs.workload.parse.Given as goal

abbrev pub invariant-loop-lines : goal.invariant-loop-lines
invariant-loop-lines g l =
    ((limits : Bool) (more : List (Line g.row.A.Denot)) → ScriptSpelled limits more l.rest.text.now → ScriptSpelled limits (l.lines.items ++ more) l.text)
    × ((lines : List (Line g.row.A.Denot)) → SpellsScript lines l.text → (left : List (Line g.row.A.Denot)) × SpellsScript left l.rest.text.now × (AreWithinLimits lines l.text → AreWithinLimits left l.rest.text.now))
    × ((why : ScriptFault) → IsFirstRefused g.row.A.Denot l.rest.number why l.rest.text.now → IsFirstRefused g.row.A.Denot 1 why l.text)

abbrev pub decreases-loop-lines : goal.decreases-loop-lines
decreases-loop-lines g l = length l.rest.text.now
