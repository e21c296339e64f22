-- What a line may go on with behind its first bytes.
use Rattle.std.specs.Prelude.{ℕ, Bool, true, false, not, ◌||◌, ◌==◌, List, [], ◌∷◌, ◌++◌, length, map, codes}
use Rattle.std.specs.Prelude.{Option, Some, None, if◌then◌else◌}
use Rattle.std.specs.List.{flat_map}
use Rattle.std.specs.Option.{option_map}
use Rattle.cap_value.specs.Bytes.{bytes_eq}
use Rattle.cap_value.specs.declared.memory.Fault.{Fault}
use Rattle.cap_value.specs.declared.memory.Fault.TheVariants.{OutOfMemory, Refused}
use Rattle.cap_language.specs.Tokens.{behind_blanks}
use Rattle.cap_script.specs.Language.{commands}
use Rattle.cap_script.specs.LineFaults.{line_fault}
use Rattle.cap_script.specs.RefusedLines.{in_line}
use Rattle.cap_script.specs.Script.{is_ignored}
use Rattle.cap_script.specs.declared.fault.ScriptFault.{ScriptFault}
use Rattle.cap_script.specs.declared.fault.ScriptFault.TheVariants.{Syntax}

-- the words of steps, rows, flags, captures, applications and values, and those of filters, that begin no command
abbrev pub inner_words : List (List ℕ)
inner_words =
    codes "to" ∷ codes "key" ∷ codes "loose"
    ∷ codes "set" ∷ codes "on" ∷ codes "off" ∷ codes "ask" ∷ codes "places" ∷ codes "report" ∷ codes "buffer" ∷ codes "null" ∷ codes "all" ∷ codes "nothing"
    ∷ codes "is" ∷ codes "starts" ∷ codes "ends" ∷ codes "not" ∷ codes "and" ∷ codes "or" ∷ []

abbrev pub signs : List (List ℕ)
signs = codes "(" ∷ codes ")" ∷ codes "," ∷ codes ";" ∷ codes "=" ∷ codes "@" ∷ []

-- The first bytes, and a space before what follows them. Behind `@` there is none.
abbrev pub begun : List ℕ → List ℕ
begun front = if bytes_eq (behind_blanks front) (codes "@") then front else front ++ 32 ∷ []

-- The line has this fault and is not read to its end: the fault is one of syntax before the end, or at it where
-- the line is to be whole.
abbrev pub is_stop : Bool → ℕ → ScriptFault → Bool
is_stop whole len (Syntax line at) = whole || not (at == len)
is_stop whole len fault = false

abbrev pub is_stop_of : Bool → ℕ → Fault ScriptFault → Bool
is_stop_of whole len (Refused fault) = is_stop whole len fault
is_stop_of whole len OutOfMemory = true

abbrev pub is_read_on : Bool → ℕ → Option (Fault ScriptFault) → Bool
is_read_on whole len None = true
is_read_on whole len (Some fault) = not (is_stop_of whole len fault)

module _ (A : Type 0) where
  -- the fault of the line, if it has one
  abbrev pub fault_of : List ℕ → Option (Fault ScriptFault)
  fault_of line = option_map (in_line 1 line) (line_fault A line)

  -- the line is none that is ignored, and is read to its end; it is to be whole where it ends with no text
  abbrev pub reads_on : Bool → List ℕ → Bool
  reads_on whole line = if is_ignored line then false else is_read_on whole (length line) (fault_of line)

  -- behind these bytes a line goes on with this text, or may end there where there is none
  unfoldable pub goes_on : List ℕ → List ℕ → Bool
  goes_on before text = reads_on (length text == 0) (before ++ text)

  -- a space and a name, where the line goes on with this text
  abbrev pub where_on : List ℕ → List ℕ → List ℕ → List ℕ
  where_on before text name = if goes_on before text then 32 ∷ name else []

  -- those of these words or signs with which the line goes on
  abbrev pub among : List ℕ → List (List ℕ) → List ℕ
  among before words = flat_map (λ word. where_on before word word) words

  -- a number, a text or a blob
  unfoldable pub literals : List ℕ → List ℕ
  literals before =
      where_on before (codes "0") (codes "NUMBER")
      ++ (where_on before (codes "''") (codes "TEXT") ++ where_on before (codes "x''") (codes "BLOB"))

  -- the words that begin a command
  unfoldable pub first_words : List ℕ → List ℕ
  first_words before = among before (map (λ entry. entry.0) (commands {A = A}))

  -- the words behind the first
  unfoldable pub later_words : List ℕ → List ℕ
  later_words before = among before inner_words

  -- the words of the language
  unfoldable pub keywords : List ℕ → List ℕ
  keywords before = first_words before ++ later_words before

  -- any name, or the words of the language where no other word is a name there
  unfoldable pub words_or_name : List ℕ → List ℕ
  words_or_name before = if goes_on before (codes "name") then codes " NAME" else keywords before

  -- a sign, or the line's end
  unfoldable pub signs_or_end : List ℕ → List ℕ
  signs_or_end before = among before signs ++ where_on before [] (codes "END")

  unfoldable pub listed : List ℕ → List ℕ
  listed before = words_or_name before ++ (literals before ++ signs_or_end before)

  -- what may follow the first bytes of a line, each behind a space
  abbrev pub expected_text : List ℕ → List ℕ
  expected_text front = codes "expected" ++ listed (begun front)
