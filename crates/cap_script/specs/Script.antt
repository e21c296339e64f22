-- How lines and workloads are spelled.
use Rattle.std.specs.Prelude.{◌≡◌, ◌⊎◌, ℕ, Bool, true, false, ◌==◌, ◌||◌, length, List, [], ◌∷◌, ◌++◌}
use Rattle.std.specs.Prelude.{Option, Some, None, is_some, IsTrue, ◌<◌}
use Rattle.std.specs.List.{list_any}
use Rattle.cap_filter.specs.Grammar.{Spells as SpellsFilter}
use Rattle.cap_filter.specs.Limits.{is_within_limits}
use Rattle.cap_filter.specs.Rule.{Rule}
use Rattle.cap_session.specs.declared.session_change.SessionChange.TheVariants.{SetFilter}
use Rattle.cap_applier.specs.Chosen.{accepted_in, numbering_in}
use Rattle.cap_core.specs.declared.command.Command.{Command}
use Rattle.cap_core.specs.declared.command.Command.TheVariants as command
use Rattle.cap_core.specs.declared.session_command.SessionCommand.TheVariants.{Change}
use Rattle.cap_language.specs.Grammar.{Spells}
use Rattle.cap_language.specs.Tokens.{begins, behind_blanks}
use Rattle.cap_script.specs.Language.{Ended, Filtered, Opening, opening}
use Rattle.cap_script.specs.declared.command.Filtering.{Filtering}
use Rattle.cap_script.specs.declared.command.Filtering.TheVariants.{Application, EachConflict, Session}
use Rattle.cap_script.specs.declared.line.Line.{Line}
use Rattle.cap_script.specs.declared.line.Show.{Show}
use Rattle.cap_script.specs.declared.line.Show.TheVariants.{Accepted, Plain, Step}
use Rattle.cap_script.specs.declared.step.Step.TheVariants.{ApplyEach}

-- an ignored line: `#` and a comment, or only spaces
abbrev pub is_ignored : List ℕ → Bool
is_ignored line = begins (λ byte. byte == 35) line || length (behind_blanks line) == 0

abbrev pub has_line_feed : List ℕ → Bool
has_line_feed = list_any (λ byte. byte == 10)

-- the text is these lines, with a line feed between each and the next
abbrev pub AreLines : List (List ℕ) → List ℕ → Type 0
AreLines [] text = ⊥
AreLines (line ∷ []) text = (text ≡ line) × (has_line_feed line ≡ false)
AreLines (line ∷ lines) text =
    (rest : List ℕ) × (text ≡ line ++ 10 ∷ rest) × (has_line_feed line ≡ false) × AreLines lines rest

-- the first line of a text, and the text after its line feed, empty where there is none
abbrev pub IsCut : List ℕ → List ℕ → List ℕ → Type 0
IsCut text line rest =
    (has_line_feed line ≡ false) × ((text ≡ line ++ 10 ∷ rest) ⊎ ((text ≡ line) × (rest ≡ [])))

module _ {A : Type 0} where
  -- The filter of a session is set. A blob is applied to the tables that its filter accepts.
  abbrev pub filtered_command : Filtering A → Rule → Command A
  filtered_command (Session session) filter = command.Session session (Change (SetFilter filter))
  filtered_command (Application contents policy quiet detail) filter =
      command.Apply (accepted_in filter contents) policy quiet
  filtered_command (EachConflict contents) filter = command.Read

  -- What is accepted of a blob is printed with its numbers in the whole blob. An application that stops at each
  -- conflict has the filter.
  abbrev pub filtered_show : Filtering A → Rule → Show A
  filtered_show (Session session) filter = Plain
  filtered_show (Application contents policy quiet detail) filter =
      Accepted detail (numbering_in filter contents)
  filtered_show (EachConflict contents) filter = Step (ApplyEach contents (Some filter))

  -- the line with this filter
  abbrev pub filter_line : Option ℕ → Filtering A → Rule → Line A
  filter_line worker what filter =
      record { worker = worker; command = filtered_command what filter; show = filtered_show what filter }

  -- the line that begins so: it has ended, or the rest of it spells the filter, with the limits or without
  -- them
  abbrev pub Closes : Bool → Line A → Opening A → List ℕ → Type 0
  Closes limits line (Ended whole) rest = line ≡ whole
  Closes limits line (Filtered worker what) rest =
      (filter : Rule) × SpellsFilter rest filter × (limits ≡ true → IsTrue (is_within_limits filter))
      × (line ≡ filter_line worker what filter)

  -- the text of a line spells it, with the limits or without them
  unfoldable pub LineSpelled : Bool → Line A → List ℕ → Type 0
  LineSpelled limits line text =
      (opened : Opening A) × (rest : List ℕ) × Spells limits opening opened text rest
      × Closes limits line opened rest

  -- each line of the text is ignored, or spells the next command
  abbrev pub LinesSpelled : Bool → List (Line A) → List (List ℕ) → Type 0
  LinesSpelled limits [] [] = Unit {0}
  LinesSpelled limits (line ∷ lines) [] = ⊥
  LinesSpelled limits [] (text ∷ texts) = (is_ignored text ≡ true) × LinesSpelled limits [] texts
  LinesSpelled limits (line ∷ lines) (text ∷ texts) =
      ((is_ignored text ≡ true) × LinesSpelled limits (line ∷ lines) texts)
      ⊎ (LineSpelled limits line text × LinesSpelled limits lines texts)

  unfoldable pub ScriptSpelled : Bool → List (Line A) → List ℕ → Type 0
  ScriptSpelled limits lines text =
      (texts : List (List ℕ)) × AreLines texts text × LinesSpelled limits lines texts

  -- the line spells this command, whether or not it is within the limits
  abbrev pub SpellsLine : Line A → List ℕ → Type 0
  SpellsLine = LineSpelled false

  abbrev pub SpellsLines : List (Line A) → List (List ℕ) → Type 0
  SpellsLines = LinesSpelled false

  -- the text spells these lines
  abbrev pub SpellsScript : List (Line A) → List ℕ → Type 0
  SpellsScript = ScriptSpelled false

  -- the text spells this line and then the lines of the rest, or no line
  abbrev pub IsRead : Bool → Option (Line A) → List ℕ → List ℕ → Type 0
  IsRead limits None text rest = ScriptSpelled limits [] text
  IsRead limits (Some line) text rest =
      (lines : List (Line A)) → ScriptSpelled limits lines rest → ScriptSpelled limits (line ∷ lines) text

  -- the first of the lines, with a rest that spells the others, or none where there is none
  abbrev pub TakesFirstBy : Bool → Option (Line A) → List (Line A) → List ℕ → Type 0
  TakesFirstBy limits None lines rest = lines ≡ []
  TakesFirstBy limits (Some line) lines rest =
      (others : List (Line A)) × (lines ≡ line ∷ others) × ScriptSpelled limits others rest

  abbrev pub TakesFirst : Option (Line A) → List (Line A) → List ℕ → Type 0
  TakesFirst = TakesFirstBy false

  -- there is a line, and the rest spells it and the others
  abbrev pub IsLeftBy : Bool → List (Line A) → List ℕ → Type 0
  IsLeftBy limits lines rest = (0 < length lines) × ScriptSpelled limits lines rest

  abbrev pub IsLeft : List (Line A) → List ℕ → Type 0
  IsLeft = IsLeftBy false

  -- whether the first line begins with `@`
  abbrev pub begins_at : List (Line A) → Bool
  begins_at [] = false
  begins_at (line ∷ lines) = is_some line.worker
