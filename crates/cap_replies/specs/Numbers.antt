-- The numbers of the lines that have a command.
use Rattle.std.specs.Prelude.{ℕ, ◌+◌, List, [], ◌∷◌, if◌then◌else◌}
use Rattle.cap_replies.specs.TextLines.{split_lines}
use Rattle.cap_script.specs.Script.{is_ignored}

-- those of these lines, of which the first has this number
abbrev pub numbers_from : ℕ → List (List ℕ) → List ℕ
numbers_from number [] = []
numbers_from number (text ∷ texts) =
    if is_ignored text then numbers_from (number + 1) texts else number ∷ numbers_from (number + 1) texts

-- those of the lines of this text
abbrev pub line_numbers : ℕ → List ℕ → List ℕ
line_numbers number text = numbers_from number (split_lines text)

-- the first of some numbers, or 0
abbrev pub first : List ℕ → ℕ
first [] = 0
first (number ∷ numbers) = number

-- the others
abbrev pub others : List ℕ → List ℕ
others [] = []
others (number ∷ numbers) = numbers
