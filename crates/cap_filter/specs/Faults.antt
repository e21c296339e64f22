-- Where a text stops being the text of a filter.
use Rattle.std.specs.Prelude.{◌≡◌, ℕ, ◌-◌, List, [], ◌∷◌, ◌++◌, length, IsTrue}
use Rattle.cap_filter.specs.Grammar.{Spelled}
use Rattle.cap_filter.specs.Limits.{is_within_limits}
use Rattle.cap_filter.specs.Rule.{Rule}
use Rattle.cap_filter.specs.Tokens.{Tokens, tokens_of}

-- the tokens begin a spelling of some filter, which may exceed the limits
abbrev pub Fits : Tokens → Type 0
Fits tokens = (rest : Tokens) × (r : Rule) × Spelled r (tokens ++ rest) []

-- the next token does not fit, or the text ends too early
abbrev pub StopsAt : Tokens → Tokens → ℕ → Type 0
StopsAt front [] left = (left ≡ 0) × ((r : Rule) → Spelled r front [] → ⊥)
StopsAt front ((behind, t) ∷ rest) left = (left ≡ behind) × (Fits (front ++ (behind, t) ∷ []) → ⊥)

-- the first token that does not fit begins at this offset, or the text ends there too early
unfoldable pub IsUnfitAt : List ℕ → ℕ → Type 0
IsUnfitAt text at =
    (left : ℕ) × (at ≡ length text - left) × (front : Tokens) × (rest : Tokens)
    × (tokens_of text ≡ front ++ rest) × Fits front × StopsAt front rest left

-- The first tokens begin a spelling of some filter, and every filter whose spelling they begin exceeds a
-- limit.
unfoldable pub IsPastLimits : List ℕ → Type 0
IsPastLimits text =
    (front : Tokens) × (rest : Tokens) × (tokens_of text ≡ front ++ rest) × Fits front
    × ((r : Rule) (more : Tokens) → Spelled r (front ++ more) [] → IsTrue (is_within_limits r) → ⊥)
