-- What is spelled within the limits: of names, columns, values, operations, blobs and filters.
use Rattle.std.specs.Prelude.{ℕ, true, List}
use Rattle.cap_script.specs.Script.{LineSpelled, LinesSpelled, ScriptSpelled}
use Rattle.cap_script.specs.declared.line.Line.{Line}

module _ {A : Type 0} where
  -- the line spells this command within the limits
  abbrev pub LineWithin : Line A → List ℕ → Type 0
  LineWithin = LineSpelled true

  abbrev pub LinesWithin : List (Line A) → List (List ℕ) → Type 0
  LinesWithin = LinesSpelled true

  -- the text spells these lines within the limits
  abbrev pub AreWithinLimits : List (Line A) → List ℕ → Type 0
  AreWithinLimits = ScriptSpelled true
