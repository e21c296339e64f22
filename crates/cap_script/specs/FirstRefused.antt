-- Which line of a workload's text is refused.
use Rattle.std.specs.Prelude.{◌≡◌, ℕ, ◌+◌, false, List, ◌∷◌, ◌++◌, length, Some, ⊤}
use Rattle.std.specs.Option.{option_map}
use Rattle.cap_value.specs.Memory.{MatchFault}
use Rattle.cap_value.specs.declared.memory.Fault.{Fault}
use Rattle.cap_value.specs.declared.memory.Fault.TheVariants.{Refused}
use Rattle.cap_script.specs.LineFaults.{line_fault}
use Rattle.cap_script.specs.LineLimits.{AreWithinLimits, LineWithin, LinesWithin}
use Rattle.cap_script.specs.RefusedLines.{LeavesLines, in_line}
use Rattle.cap_script.specs.Script.{AreLines, SpellsLine, SpellsLines, SpellsScript, is_ignored}
use Rattle.cap_script.specs.declared.fault.ScriptFault.{ScriptFault}
use Rattle.cap_script.specs.declared.fault.ScriptFault.TheVariants.{BadBlob, Limit, Syntax}
use Rattle.cap_script.specs.declared.line.Line.{Line}

-- the number of the refused line
abbrev pub line_of : ScriptFault → ℕ
line_of (Syntax line at) = line
line_of (Limit line why) = line
line_of (BadBlob line why) = line

module _ (A : Type 0) where
  -- the text spells lines within the limits
  abbrev pub SpellsWithin : List ℕ → Type 0
  SpellsWithin text = (lines : List (Line A)) × SpellsScript lines text × AreWithinLimits lines text

  -- The lines before the refused one are ignored or spell commands within the limits. It is not ignored, and
  -- spells no command, or at a limit none within the limits. The fault is its own. Lines are counted with
  -- those that are ignored, from the number of the text's first line.
  pub record IsFirstRefused (first : ℕ) (fault : ScriptFault) (text : List ℕ) : Type 0 where
    pub before : List (List ℕ)
    pub refused : List ℕ
    pub behind : List (List ℕ)
    pub are_lines : AreLines (before ++ refused ∷ behind) text
    pub number : line_of fault ≡ first + length before
    pub spelled : (lines : List (Line A)) × SpellsLines lines before × LinesWithin lines before
    pub not_ignored : is_ignored refused ≡ false
    pub none :
        (line : Line A) → SpellsLine line refused → LeavesLines (Refused fault) (LineWithin line refused)
    pub why : option_map (in_line (line_of fault) refused) (line_fault A refused) ≡ Some (Refused fault)

  -- a fault of the text is that of its first refused line
  abbrev pub FaultOfFirstRefused : ℕ → Fault ScriptFault → List ℕ → Type 0
  FaultOfFirstRefused first fault text = MatchFault fault ⊤ (λ why. IsFirstRefused first why text)
