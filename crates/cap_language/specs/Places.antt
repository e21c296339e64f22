-- Texts that go on with the same token.
use Rattle.std.specs.Prelude.{◌≡◌, ℕ, List, [], ◌∷◌, Option}
use Rattle.std.specs.Option.{option_map}
use Rattle.cap_language.specs.Scanning.{token_at}
use Rattle.cap_language.specs.Tokens.{Token}

-- the word, integer, text or blob that the text begins with
abbrev pub first_token : List ℕ → Option Token
first_token text = option_map (λ found. found.0) (token_at text)

-- both are empty, or they begin with the same byte and with the same token, or none
abbrev pub BeginAlike : List ℕ → List ℕ → Type 0
BeginAlike [] other = other ≡ []
BeginAlike (byte ∷ rest) [] = ⊥
BeginAlike (byte ∷ rest) (first ∷ more) =
    (byte ≡ first) × (first_token (byte ∷ rest) ≡ first_token (first ∷ more))
