-- The tokens of a line.
use Rattle.std.specs.Prelude.{◌≡◌, ℕ, List, [], ◌∷◌, ◌++◌, length, Bool, true, false, ◌==◌, ◌&&◌, ◌||◌}
use Rattle.std.specs.Prelude.{if◌then◌else◌, Ok, ℤ, pos, neg_ℤ, ◌<◌, FitsSigned}
use Rattle.std.specs.Int.{w64}
use Rattle.std.specs.Char.{is_ascii_alphabetic, is_ascii_digit}
use Rattle.std.specs.List.{list_all}
use Rattle.std.specs.Str.Parse.{digits_value}
use Rattle.hex.specs.Hex.{decode_of}
use Rattle.cap_filter.specs.Printed.{quote, quoted}
use Rattle.cap_filter.specs.Tokens.{is_word, is_word_byte}

pub data Token : Type 0 where
  -- a letter or `_`, and then letters, digits and `_`
  Word : List ℕ → Token
  -- decimal digits, after a minus sign or not
  Integer : Bool → ℕ → Token
  -- the content of a quoted text, with each doubled quote taken as one
  Text : List ℕ → Token
  -- the bytes of the hex digits in quotes after an `x`
  Blob : List ℕ → Token

abbrev pub is_blank : ℕ → Bool
is_blank byte = byte == 32

-- the text after its leading spaces
abbrev pub behind_blanks : List ℕ → List ℕ
behind_blanks [] = []
behind_blanks (byte ∷ rest) = if is_blank byte then behind_blanks rest else byte ∷ rest

-- whether the first byte of the text satisfies the test
abbrev pub begins : (ℕ → Bool) → List ℕ → Bool
begins is_one [] = false
begins is_one (byte ∷ rest) = is_one byte

-- an ASCII letter or `_`
abbrev pub is_letter : ℕ → Bool
is_letter byte = is_ascii_alphabetic byte || byte == 95

abbrev pub is_quote : ℕ → Bool
is_quote byte = byte == quote

abbrev pub begins_quote : List ℕ → Bool
begins_quote = begins is_quote

-- an `x` and a quote right after it, which begin no word
abbrev pub begins_blob : List ℕ → Bool
begins_blob [] = false
begins_blob (byte ∷ rest) = byte == 120 && begins_quote rest

abbrev pub minus : Bool → List ℕ → List ℕ
minus true digits = 45 ∷ digits
minus false digits = digits

-- the number with this sign
abbrev pub signed : Bool → ℕ → ℤ
signed true n = neg_ℤ (pos n)
signed false n = pos n

-- The line begins with the token, and the rest follows. Words and integers are as long as possible, and
-- integers fit in 64 bits.
abbrev pub Begins : Token → List ℕ → List ℕ → Type 0
Begins (Word w) line rest =
    (line ≡ w ++ rest) × (begins is_letter line ≡ true) × (begins_blob line ≡ false) × (is_word w ≡ true)
    × (begins is_word_byte rest ≡ false)
Begins (Integer negative n) line rest =
    (digits : List ℕ) × (line ≡ minus negative digits ++ rest) × (0 < length digits)
    × (list_all is_ascii_digit digits ≡ true) × (digits_value 10 digits ≡ n)
    × (begins is_ascii_digit rest ≡ false) × FitsSigned w64 (signed negative n)
Begins (Text t) line rest = (line ≡ quoted t ++ rest) × (begins is_quote rest ≡ false)
Begins (Blob bytes) line rest =
    (digits : List ℕ) × (line ≡ 120 ∷ quote ∷ digits ++ quote ∷ rest) × (decode_of digits ≡ Ok bytes)
