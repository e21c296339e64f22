-- The token at the beginning of a text, as a function.
use Rattle.std.specs.Prelude.{◌≡◌, ℕ, List, [], ◌∷◌, ◌++◌, ◌+◌, ◌*◌, ◌-◌, ◌^◌, Bool, true, false, ◌==◌}
use Rattle.std.specs.Prelude.{◌&&◌, not, nat_le}
use Rattle.std.specs.Prelude.{if◌then◌else◌, Option, Some, None, Result, Ok, Err}
use Rattle.std.specs.Char.{is_ascii_digit}
use Rattle.std.specs.List.{AllByRecursion}
use Rattle.hex.specs.Hex.{decode_of}
use Rattle.cap_filter.specs.Printed.{quote}
use Rattle.cap_filter.specs.Tokens.{is_word_byte}
use Rattle.cap_language.specs.Tokens.{Blob, Integer, Text, Token, Word, begins_quote, is_letter}
use Rattle.cap_language.specs.declared.token.Start.{Start}
use Rattle.cap_language.specs.declared.token.Start.TheVariants as start

-- a token, and the rest behind it
abbrev pub Scanned : Type 0
Scanned = Option (Token × List ℕ)

-- the longest beginning whose bytes satisfy the test, and the rest
abbrev pub run_of : (ℕ → Bool) → List ℕ → List ℕ × List ℕ
run_of is_one [] = ([], [])
run_of is_one (byte ∷ rest) =
    if is_one byte then (byte ∷ (run_of is_one rest).0, (run_of is_one rest).1) else ([], byte ∷ rest)

-- the number whose digits go on here, and the rest; none beyond 2 ^ 63
abbrev pub digits_on : ℕ → List ℕ → Option (ℕ × List ℕ)
digits_on n [] = Some (n, [])
digits_on n (byte ∷ rest) =
    if is_ascii_digit byte
    then (if nat_le (n * 10 + (byte - 48)) (2 ^ 63) then digits_on (n * 10 + (byte - 48)) rest else None)
    else Some (n, byte ∷ rest)

abbrev pub number_in : Bool → Option (ℕ × List ℕ) → Scanned
number_in negative None = None
number_in true (Some (n, rest)) = Some (Integer true n, rest)
number_in false (Some (n, rest)) = if n == 2 ^ 63 then None else Some (Integer false n, rest)

-- each is a decimal digit
abbrev pub AreDigits : List ℕ → Type 0
AreDigits = AllByRecursion (λ byte. is_ascii_digit byte ≡ true)

-- the number whose digits begin here, one at least
abbrev pub digits_at : List ℕ → Option (ℕ × List ℕ)
digits_at [] = None
digits_at (byte ∷ rest) = if is_ascii_digit byte then digits_on 0 (byte ∷ rest) else None

abbrev pub number_at : Bool → List ℕ → Scanned
number_at negative here = number_in negative (digits_at here)

abbrev pub with_byte : ℕ → Option (List ℕ × List ℕ) → Option (List ℕ × List ℕ)
with_byte byte None = None
with_byte byte (Some (content, rest)) = Some (byte ∷ content, rest)

abbrev pub with_bytes : List ℕ → Option (List ℕ × List ℕ) → Option (List ℕ × List ℕ)
with_bytes bytes None = None
with_bytes bytes (Some (content, rest)) = Some (bytes ++ content, rest)

abbrev pub no_quote : ℕ → Bool
no_quote byte = not (byte == quote)

-- the content of a quoted text and the rest behind its last quote, given what follows its first, or one that
-- may end it
abbrev pub quoted_on : Bool → List ℕ → Option (List ℕ × List ℕ)
quoted_on false [] = None
quoted_on true [] = Some ([], [])
quoted_on false (byte ∷ rest) =
    if byte == quote then quoted_on true rest else with_byte byte (quoted_on false rest)
quoted_on true (byte ∷ rest) =
    if byte == quote then with_byte quote (quoted_on false rest) else Some ([], byte ∷ rest)

abbrev pub quoted_of : List ℕ → Option (List ℕ × List ℕ)
quoted_of = quoted_on false

abbrev pub text_in : Option (List ℕ × List ℕ) → Scanned
text_in None = None
text_in (Some (content, rest)) = Some (Text content, rest)

abbrev pub bytes_in : {E : Type 0} → List ℕ → Result (List ℕ) E → Scanned
bytes_in rest (Ok bytes) = Some (Blob bytes, rest)
bytes_in rest (Err why) = None

-- the digits up to a quote, and what is behind them
abbrev pub blob_in : List ℕ × List ℕ → Scanned
blob_in (digits, []) = None
blob_in (digits, byte ∷ rest) = bytes_in rest (decode_of digits)

abbrev pub word_in : List ℕ × List ℕ → Scanned
word_in (letters, rest) = Some (Word letters, rest)

-- what begins with this byte, given those behind it: `x'` begins a blob
abbrev pub start_at : ℕ → List ℕ → Start
start_at byte rest =
    if byte == quote then start.Quote
    else if is_letter byte then (if byte == 120 && begins_quote rest then start.X else start.Letter)
    else if byte == 45 then start.Minus
    else if is_ascii_digit byte then start.Digit
    else start.Other

abbrev pub start_of : List ℕ → Start
start_of [] = start.Other
start_of (byte ∷ rest) = start_at byte rest

abbrev pub token_from : Start → List ℕ → Scanned
token_from start.Quote (byte ∷ rest) = text_in (quoted_of rest)
token_from start.X (byte ∷ next ∷ rest) = blob_in (run_of no_quote rest)
token_from start.Letter here = word_in (run_of is_word_byte here)
token_from start.Minus (byte ∷ rest) = number_at true rest
token_from start.Digit here = number_at false here
token_from start here = None

-- the word, integer, text or blob that the text begins with, if it begins with one
unfoldable pub token_at : List ℕ → Scanned
token_at here = token_from (start_of here) here
