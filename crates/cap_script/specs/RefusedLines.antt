-- What a fault of a line says of its text.
use Rattle.std.specs.Prelude.{ℕ, ◌-◌, List, length, ⊤}
use Rattle.cap_value.specs.declared.memory.Fault.{Fault}
use Rattle.cap_value.specs.declared.memory.Fault.TheVariants as fault
use Rattle.cap_value.specs.declared.memory.Fault.TheVariants.{Refused}
use Rattle.cap_language.specs.declared.fault.LineFault.{LineFault}
use Rattle.cap_language.specs.declared.fault.LineFault.TheVariants.{BadBlob, Limit, OutOfMemory, Syntax}
use Rattle.cap_script.specs.LineLimits.{AreWithinLimits, LineWithin}
use Rattle.cap_script.specs.Script.{SpellsLine, SpellsScript}
use Rattle.cap_script.specs.declared.fault.ScriptFault.{ScriptFault}
use Rattle.cap_script.specs.declared.fault.ScriptFault.TheVariants as script
use Rattle.cap_script.specs.declared.line.Line.{Line}

-- the fault of the workload, where the line has this number and this text
abbrev pub in_line : ℕ → List ℕ → LineFault → Fault ScriptFault
in_line line text (Syntax left) = Refused (script.Syntax line (length text - left))
in_line line text (Limit why) = Refused (script.Limit line why)
in_line line text (BadBlob why) = Refused (script.BadBlob line why)
in_line line text OutOfMemory = fault.OutOfMemory

-- What the fault leaves of a line that the text spells all the same: any line out of memory, one beyond the
-- limits at a limit, and else none.
abbrev pub Leaves : LineFault → Type 0 → Type 0
Leaves OutOfMemory within = ⊤
Leaves (Limit why) within = within → ⊥
Leaves fault within = ⊥

-- what the fault of a workload leaves of lines that the text spells all the same
abbrev pub LeavesLines : Fault ScriptFault → Type 0 → Type 0
LeavesLines fault.OutOfMemory within = ⊤
LeavesLines (Refused (script.Limit line why)) within = within → ⊥
LeavesLines (Refused why) within = ⊥

module _ (A : Type 0) where
  abbrev pub NoLine : LineFault → List ℕ → Type 0
  NoLine fault text = (line : Line A) → SpellsLine line text → Leaves fault (LineWithin line text)

  -- the text spells no lines, or at a limit none within the limits
  abbrev pub NoLines : Fault ScriptFault → List ℕ → Type 0
  NoLines fault text =
      (lines : List (Line A)) → SpellsScript lines text → LeavesLines fault (AreWithinLimits lines text)
