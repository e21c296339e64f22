-- The first lines of a text, which are kept as they were read.
use Rattle.std.specs.Prelude.{ℕ, List, [], ◌∷◌, ◌++◌, length, nat_lt, if◌then◌else◌}
use Rattle.cap_script.specs.LineLimits.{AreWithinLimits}
use Rattle.cap_script.specs.Script.{SpellsScript}
use Rattle.cap_script.specs.declared.line.Line.{Line}

module _ {A : Type 0} where
  -- with one line more, where fewer than the most are kept
  abbrev pub kept_with : ℕ → List (Line A) → Line A → List (Line A)
  kept_with most kept line = if nat_lt (length kept) most then kept ++ line ∷ [] else kept

  -- the text spells these lines and then others, within the limits
  abbrev pub SpellsKept : List (Line A) → List ℕ → Type 0
  SpellsKept kept text =
      (others : List (Line A)) × SpellsScript (kept ++ others) text × AreWithinLimits (kept ++ others) text
