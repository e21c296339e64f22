-- Reading one token.
use Rattle.std.specs.Prelude.{◌≡◌, ℕ, List, [], ◌∷◌}
use Rattle.cap_filter.specs.declared.token.Token.{Token}
use Rattle.cap_filter.specs.declared.token.Token.TheVariants as found
use Rattle.cap_filter.specs.declared.token.Read.{Read}
use Rattle.cap_filter.specs.Tokens.{word, opening, closing, comma, other, Tokens, tokens_of, tokens_from}
use Rattle.cap_filter.specs.Tokens.{inside}

-- The tokens begin with the one that was read. Behind an opening quote the text is still to be read.
abbrev pub BeginsAs : Tokens → ℕ → List ℕ → Token → Type 0
BeginsAs tokens left rest (found.Word w) = tokens ≡ (left, word w.now) ∷ tokens_of rest
BeginsAs tokens left rest found.Opening = tokens ≡ (left, opening) ∷ tokens_of rest
BeginsAs tokens left rest found.Closing = tokens ≡ (left, closing) ∷ tokens_of rest
BeginsAs tokens left rest found.Comma = tokens ≡ (left, comma) ∷ tokens_of rest
BeginsAs tokens left rest found.Quote = tokens ≡ tokens_from (inside left []) rest
BeginsAs tokens left rest found.Other = (more : Tokens) × (tokens ≡ (left, other) ∷ more)
BeginsAs tokens left rest found.End = (tokens ≡ []) × (left ≡ 0)

abbrev pub IsRead : Tokens → Read → Type 0
IsRead tokens read = BeginsAs tokens read.left read.rest.now read.token
