-- A text that is one command, or why it is not.
use Rattle.std.specs.Prelude.{◌≡◌, ◌⊎◌, ℕ, List, [], ◌∷◌, length, Option, Some, None, IsUtf8}
use Rattle.std.specs.Global.{Global}
use Rattle.cap_script.specs.FirstRefused.{IsFirstRefused}
use Rattle.cap_script.specs.LineLimits.{AreWithinLimits}
use Rattle.cap_script.specs.Script.{SpellsScript}
use Rattle.cap_script.specs.declared.line.Line.{Line}
use Rattle.cap_connection.specs.declared.fault.TextFault.{TextFault}
use Rattle.cap_connection.specs.declared.fault.TextFault.TheVariants.{NotOne, InLine}

-- The text is UTF-8, and spells this line and no other, within the limits.
pub record SpellsOne (line : Line Global) (text : List ℕ) : Type 0 where
  pub utf8 : IsUtf8 text
  pub spelled : SpellsScript (line ∷ []) text
  pub within : AreWithinLimits (line ∷ []) text

-- the only one of these lines, or that there is none or there are several
abbrev pub IsOnly : Option (Line Global) → List (Line Global) → Type 0
IsOnly (Some line) lines = lines ≡ line ∷ []
IsOnly None lines = ¬ (length lines ≡ 1)

-- the text spells commands within the limits, but not just one
abbrev pub SpellsOthers : List ℕ → Type 0
SpellsOthers text =
    (lines : List (Line Global)) × SpellsScript lines text × AreWithinLimits lines text × IsOnly None lines

-- It is not UTF-8, has no command or several, or the fault is that of its first refused line.
abbrev pub Reason : List ℕ → TextFault → Type 0
Reason text NotOne = ¬ (IsUtf8 text) ⊎ SpellsOthers text
Reason text (InLine fault) = IsFirstRefused Global 1 fault text

-- The text is not one command.
pub record IsNotOne (text : List ℕ) (why : TextFault) : Type 0 where
  pub none : (line : Line Global) → ¬ (SpellsOne line text)
  pub reason : Reason text why
