-- The tokens of a filter's text.
use Rattle.std.specs.Prelude.{ℕ, suc, List, [], ◌∷◌, ◌++◌, length, Bool, true, false, ◌==◌, ◌||◌}
use Rattle.std.specs.Prelude.{if◌then◌else◌, Option, Some, None}
use Rattle.std.specs.List.{list_all, list_any}
use Rattle.std.specs.Char.{is_ascii_alphanumeric}
use Rattle.cap_filter.specs.Printed.{quote}

pub data Token : Type 0 where
  -- the longest run of letters, digits and `_`
  word : List ℕ → Token
  -- the text between quotes, with each doubled quote read as one
  quoted : List ℕ → Token
  opening : Token
  closing : Token
  comma : Token
  -- a byte that begins no token, or a quote that is not closed
  other : Token

-- The tokens, each with the number of bytes from its first to the end of the text.
abbrev pub Tokens : Type 0
Tokens = List (ℕ × Token)

abbrev pub blank : ℕ
blank = 32

-- an ASCII letter or digit, or `_`
abbrev pub is_word_byte : ℕ → Bool
is_word_byte byte = is_ascii_alphanumeric byte || byte == 95

abbrev pub is_word : List ℕ → Bool
is_word = list_all is_word_byte

abbrev pub has_quote : List ℕ → Bool
has_quote = list_any (λ byte. byte == quote)

abbrev pub begins_word : List ℕ → Bool
begins_word [] = false
begins_word (byte ∷ rest) = is_word_byte byte

-- a byte of a word before the tokens of the rest, which goes on with the same word or not
abbrev pub onto_word : ℕ → ℕ → Bool → Tokens → Tokens
onto_word left byte true ((behind, word w) ∷ tokens) = (left, word (byte ∷ w)) ∷ tokens
onto_word left byte _ tokens = (left, word (byte ∷ [])) ∷ tokens

abbrev pub sign : ℕ → Token
sign byte =
    if byte == 40 then opening else if byte == 41 then closing else if byte == 44 then comma else other

-- The state of the scanner: between tokens; inside a quoted text; or behind a quote in a quoted text, which
-- ends it unless another quote follows. A quoted text has the number of bytes from its first quote on, and
-- its bytes so far.
pub data ScannerState : Type 0 where
  between : ScannerState
  inside : ℕ → List ℕ → ScannerState
  behind_quote : ℕ → List ℕ → ScannerState

-- The tokens from a byte between tokens on, given those of the rest, scanned between tokens and inside
-- quotes.
abbrev pub from_byte : ℕ → List ℕ → Tokens → Tokens → Tokens
from_byte byte rest after in_quotes =
    if byte == blank then after
    else if byte == quote then in_quotes
    else if is_word_byte byte then onto_word (suc (length rest)) byte (begins_word rest) after
    else (suc (length rest), sign byte) ∷ after

unfoldable pub tokens_from : ScannerState → List ℕ → Tokens
tokens_from between [] = []
tokens_from between (byte ∷ rest) =
    from_byte byte rest (tokens_from between rest) (tokens_from (inside (suc (length rest)) []) rest)
tokens_from (inside left w) [] = (left, other) ∷ []
tokens_from (inside left w) (byte ∷ rest) =
    if byte == quote then tokens_from (behind_quote left w) rest
    else tokens_from (inside left (w ++ byte ∷ [])) rest
tokens_from (behind_quote left w) [] = (left, quoted w) ∷ []
tokens_from (behind_quote left w) (byte ∷ rest) =
    if byte == quote then tokens_from (inside left (w ++ quote ∷ [])) rest
    else (left, quoted w)
    ∷ from_byte byte rest (tokens_from between rest) (tokens_from (inside (suc (length rest)) []) rest)

abbrev pub tokens_of : List ℕ → Tokens
tokens_of = tokens_from between

-- the text of a word or of a quoted text
abbrev pub text_of : Token → Option (List ℕ)
text_of (word w) = Some w
text_of (quoted w) = Some w
text_of opening = None
text_of closing = None
text_of comma = None
text_of other = None
