-- The lines of a workload with their numbers.
use Rattle.std.specs.Prelude.{◌≡◌, ◌<◌, ℕ, Bool, List, [], ◌∷◌, Option, Some, None, false, is_some, length}
use Rattle.cap_replies.specs.Numbers.{first, line_numbers, others}
use Rattle.cap_replies.specs.declared.run_line.ReplyForm.{ReplyForm}
use Rattle.cap_replies.specs.declared.run_line.RunLine.{RunLine}
use Rattle.cap_script.specs.Script.{SpellsScript}
use Rattle.cap_script.specs.declared.line.Line.{Line}

-- what is left of a text: what spells the other lines, what has their numbers, with the number of its first
-- line, and how replies are printed
pub record LinesLeft : Type 0 where
  pub form : ReplyForm
  pub text : List ℕ
  pub number : ℕ
  pub rest : List ℕ

-- all of a text
abbrev pub all_lines : ReplyForm → List ℕ → LinesLeft
all_lines form text = record { form = form; text = text; number = 1; rest = text }

module _ {A : Type 0} where
  -- a line of a run
  abbrev pub run_line : ReplyForm → ℕ → Line A → RunLine A
  run_line form number line = record { form = form; number = number; line = line }

  -- lines with these numbers, one after the other
  abbrev pub numbered : ReplyForm → List ℕ → List (Line A) → List (RunLine A)
  numbered form numbers [] = []
  numbered form numbers (line ∷ lines) =
      run_line form (first numbers) line ∷ numbered form (others numbers) lines

  -- what is left spells these lines, with their numbers
  abbrev pub SpellsRun : List (RunLine A) → LinesLeft → Type 0
  SpellsRun lines left =
      (plain : List (Line A)) × SpellsScript plain left.text
      × (lines ≡ numbered left.form (line_numbers left.number left.rest) plain)

  -- the text spells these lines, whose replies are printed in this form
  abbrev pub SpellsLines : ReplyForm → List (RunLine A) → List ℕ → Type 0
  SpellsLines form lines text = SpellsRun lines (all_lines form text)

  -- the first of the lines, with a rest that spells the others, or none where there is none
  abbrev pub TakesFirst : Option (RunLine A) → List (RunLine A) → LinesLeft → Type 0
  TakesFirst None lines left = lines ≡ []
  TakesFirst (Some line) lines left =
      (behind : List (RunLine A)) × (lines ≡ line ∷ behind) × SpellsRun behind left

  -- there is a line, and the rest spells it and the others
  abbrev pub IsLeft : List (RunLine A) → LinesLeft → Type 0
  IsLeft lines left = (0 < length lines) × SpellsRun lines left

  -- whether the first line begins with `@`
  abbrev pub begins_at : List (RunLine A) → Bool
  begins_at [] = false
  begins_at (line ∷ lines) = is_some line.line.worker
