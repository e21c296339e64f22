-- What one line is read as.
use Rattle.std.specs.Prelude.{◌≡◌, ℕ, List, Option, Some, None, true, false, ⊤}
use Rattle.std.specs.Option.{option_map}
use Rattle.cap_value.specs.Memory.{MatchFault}
use Rattle.cap_value.specs.declared.memory.Fault.{Fault}
use Rattle.cap_value.specs.declared.memory.Fault.TheVariants.{Refused}
use Rattle.cap_script.specs.FirstRefused.{line_of}
use Rattle.cap_script.specs.LineFaults.{line_fault}
use Rattle.cap_script.specs.LineLimits.{LineWithin}
use Rattle.cap_script.specs.RefusedLines.{LeavesLines, in_line}
use Rattle.cap_script.specs.Script.{SpellsLine, is_ignored}
use Rattle.cap_script.specs.declared.fault.ScriptFault.{ScriptFault}
use Rattle.cap_script.specs.declared.line.Line.{Line}

-- the line is ignored, or it spells this command, which is within the limits
abbrev pub IsFound : {A : Type 0} → Option (Line A) → List ℕ → Type 0
IsFound None text = is_ignored text ≡ true
IsFound (Some line) text = (is_ignored text ≡ false) × SpellsLine line text × LineWithin line text

-- The line with this number is not ignored, and spells no command, or at a limit none within the limits. The
-- fault is its own.
pub record HasFault (A : Type 0) (number : ℕ) (fault : Fault ScriptFault) (text : List ℕ) : Type 0 where
  pub not_ignored : is_ignored text ≡ false
  pub numbered : MatchFault fault ⊤ (λ why. line_of why ≡ number)
  pub none : (line : Line A) → SpellsLine line text → LeavesLines fault (LineWithin line text)
  pub why :
      MatchFault fault ⊤ (λ why. option_map (in_line number text) (line_fault A text) ≡ Some (Refused why))
