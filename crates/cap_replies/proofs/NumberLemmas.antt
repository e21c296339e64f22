-- The lines of a run, with their numbers.
use Rattle.std.proofs.Common.{◌≡◌, ◌∙◌, ℕ, ◌+◌, ◌<◌, Bool, true, false, cond, List, [], ◌∷◌, Some, None, length, ap, arith, refl, sym, subst}
use Rattle.cap_replies.specs.Lines.{IsLeft, LinesLeft, SpellsRun, TakesFirst, begins_at, numbered, run_line}
use Rattle.cap_replies.specs.Numbers.{first, line_numbers, numbers_from, others}
use Rattle.cap_replies.specs.TextLines.{split_lines}
use Rattle.cap_replies.specs.declared.run_line.ReplyForm.{ReplyForm}
use Rattle.cap_replies.specs.declared.run_line.RunLine.{RunLine}
use Rattle.cap_script.specs.Script as script
use Rattle.cap_script.specs.Script.{SpellsScript, is_ignored}
use Rattle.cap_script.specs.declared.line.Line.{Line}

-- behind a line that is ignored
pub number_passed : (number : ℕ) (text line behind : List ℕ) → split_lines text ≡ line ∷ split_lines behind → is_ignored line ≡ true → line_numbers number text ≡ line_numbers (number + 1) behind
number_passed number text line behind cut ignored =
    ap (numbers_from number) cut
    ∙ ap (λ (b : Bool). cond b (line_numbers (number + 1) behind) (number ∷ line_numbers (number + 1) behind)) ignored

-- a line with a command
pub number_taken : (number : ℕ) (text line behind : List ℕ) → split_lines text ≡ line ∷ split_lines behind → is_ignored line ≡ false → line_numbers number text ≡ number ∷ line_numbers (number + 1) behind
number_taken number text line behind cut said =
    ap (numbers_from number) cut
    ∙ ap (λ (b : Bool). cond b (line_numbers (number + 1) behind) (number ∷ line_numbers (number + 1) behind)) said

module _ {A : Type 0} where
  pub numbered_some : (form : ReplyForm) (numbers : List ℕ) (plain : List (Line A)) → 0 < length plain → 0 < length (numbered form numbers plain)
  numbered_some form numbers [] some = some
  numbered_some form numbers (line ∷ plain) some = omega arith

  numbered_at : (form : ReplyForm) (numbers : List ℕ) (plain : List (Line A)) → script.begins_at plain ≡ begins_at (numbered form numbers plain)
  numbered_at form numbers [] = refl
  numbered_at form numbers (line ∷ plain) = refl

  -- the next line, with its number
  pub line_taken : (lines : List (RunLine A)) (old : LinesLeft) (line : Line A) (number : ℕ) (text : List ℕ) (later : ℕ) (rest : List ℕ) (so : SpellsRun lines old)
      → script.TakesFirst (Some line) so.0 text → number ≡ first (line_numbers old.number old.rest) → line_numbers later rest ≡ others (line_numbers old.number old.rest)
      → TakesFirst (Some (run_line old.form number line)) lines (record { form = old.form; text = text; number = later; rest = rest })
  line_taken lines old line number text later rest (plain, spelled, is) (more, parts, left) here behind = (
    numbered old.form (others (line_numbers old.number old.rest)) more,
    is ∙ ap (numbered old.form (line_numbers old.number old.rest)) parts
        ∙ ap (λ (n : ℕ). run_line old.form n line ∷ numbered old.form (others (line_numbers old.number old.rest)) more) (sym here),
    (more, left, ap (λ (ns : List ℕ). numbered old.form ns more) (sym behind)),
  )

  pub line_none : (lines : List (RunLine A)) (old left : LinesLeft) (text : List ℕ) (so : SpellsRun lines old) → script.TakesFirst None so.0 text → TakesFirst None lines left
  line_none lines old left text (plain, spelled, is) none = is ∙ ap (numbered old.form (line_numbers old.number old.rest)) none

  -- out of memory for the next line
  pub line_left : (lines : List (RunLine A)) (old : LinesLeft) (text : List ℕ) (so : SpellsRun lines old) → script.IsLeft so.0 text
      → IsLeft lines (record { form = old.form; text = text; number = old.number; rest = old.rest })
  line_left lines old text (plain, spelled, is) (some, left) = (
    subst (λ (ls : List (RunLine A)). 0 < length ls) (sym is) (numbered_some old.form (line_numbers old.number old.rest) plain some),
    (plain, left, is),
  )

  -- whether the next line begins with `@`
  pub line_at : (lines : List (RunLine A)) (old : LinesLeft) (found : Bool) (text : List ℕ) (so : SpellsRun lines old) → (found ≡ script.begins_at so.0) × SpellsScript so.0 text
      → (found ≡ begins_at lines) × SpellsRun lines (record { form = old.form; text = text; number = old.number; rest = old.rest })
  line_at lines old found text (plain, spelled, is) (at, left) =
      (at ∙ numbered_at old.form (line_numbers old.number old.rest) plain ∙ ap begins_at (sym is), (plain, left, is))
