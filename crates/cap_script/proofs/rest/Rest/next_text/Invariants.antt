use Rattle.std.proofs.Common.{◌≤◌, ◌+◌, ◌^◌, Bool, List, length}
use Rattle.cap_script.specs.FirstRefused.{IsFirstRefused}
use Rattle.cap_script.specs.Script.{ScriptSpelled}
use Rattle.cap_script.specs.declared.fault.ScriptFault.{ScriptFault}
use Rattle.cap_script.specs.declared.line.Line.{Line}
use Rattle.cap_script.proofs.rest.Rest.next_text.Given as goal

abbrev pub invariant-loop-line : goal.invariant-loop-line
invariant-loop-line g l =
    (l.self.number + length l.self.text.now ≤ 2 ^ 63)
    × (length l.self.text.now ≤ length l.initial.self.text.now)
    × ((limits : Bool) (lines : List (Line g.row.A.Denot)) → ScriptSpelled limits lines l.initial.self.text.now → ScriptSpelled limits lines l.self.text.now)
    × ((limits : Bool) (lines : List (Line g.row.A.Denot)) → ScriptSpelled limits lines l.self.text.now → ScriptSpelled limits lines l.initial.self.text.now)
    × ((why : ScriptFault) → IsFirstRefused g.row.A.Denot l.self.number why l.self.text.now → IsFirstRefused g.row.A.Denot l.initial.self.number why l.initial.self.text.now)

abbrev pub decreases-loop-line : goal.decreases-loop-line
decreases-loop-line g l = length l.self.text.now
