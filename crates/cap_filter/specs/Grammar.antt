-- The grammar of filters: which texts spell which filter.
use Rattle.std.specs.Prelude.{◌≡◌, ℕ, List, [], ◌∷◌, Some, codes}
use Rattle.cap_filter.specs.Rule.{Rule, all, nothing, is, starts, ends, negation, conjunction, disjunction}
use Rattle.cap_filter.specs.Rule.{Rules, no_rules, rule}
use Rattle.cap_filter.specs.Tokens.{Token, word, opening, closing, comma, Tokens, tokens_of, text_of}

-- the tokens are this one, at any offset, and the rest
abbrev pub Begins : Tokens → Token → Tokens → Type 0
Begins tokens first rest = (left : ℕ) × (tokens ≡ (left, first) ∷ rest)

-- a keyword, and the rest
abbrev pub BeginsWord : Tokens → List ℕ → Tokens → Type 0
BeginsWord tokens keyword rest = Begins tokens (word keyword) rest

-- a keyword and a word or a quoted text, and the rest
abbrev pub BeginsWith : Tokens → List ℕ → List ℕ → Tokens → Type 0
BeginsWith tokens keyword text rest =
    (after : Tokens) × BeginsWord tokens keyword after × (t : Token) × (text_of t ≡ Some text)
    × Begins after t rest

-- a keyword and an opening parenthesis, and the rest
abbrev pub BeginsList : Tokens → List ℕ → Tokens → Type 0
BeginsList tokens keyword rest =
    (after : Tokens) × BeginsWord tokens keyword after × Begins after opening rest

-- the tokens are a spelling of the filter, and the rest
abbrev mutual
  pub Spelled : Rule → Tokens → Tokens → Type 0
  Spelled all tokens rest = BeginsWord tokens (codes "all") rest
  Spelled nothing tokens rest = BeginsWord tokens (codes "nothing") rest
  Spelled (is w) tokens rest = BeginsWith tokens (codes "is") w rest
  Spelled (starts w) tokens rest = BeginsWith tokens (codes "starts") w rest
  Spelled (ends w) tokens rest = BeginsWith tokens (codes "ends") w rest
  Spelled (negation r) tokens rest =
      (after : Tokens) × BeginsWord tokens (codes "not") after × Spelled r after rest
  Spelled (conjunction rs) tokens rest =
      (after : Tokens) × BeginsList tokens (codes "and") after × SpelledMembers rs after rest
  Spelled (disjunction rs) tokens rest =
      (after : Tokens) × BeginsList tokens (codes "or") after × SpelledMembers rs after rest

  -- with a comma between each and the next, and a closing parenthesis
  pub SpelledMembers : Rules → Tokens → Tokens → Type 0
  SpelledMembers no_rules tokens rest = Begins tokens closing rest
  SpelledMembers (rule r rs) tokens rest =
      (after : Tokens) × Spelled r tokens after × SpelledMore rs after rest

  pub SpelledMore : Rules → Tokens → Tokens → Type 0
  SpelledMore no_rules tokens rest = Begins tokens closing rest
  SpelledMore (rule r rs) tokens rest =
      (member : Tokens) × Begins tokens comma member × (after : Tokens) × Spelled r member after
      × SpelledMore rs after rest

-- the text spells the filter
unfoldable pub Spells : List ℕ → Rule → Type 0
Spells text r = Spelled r (tokens_of text) []
