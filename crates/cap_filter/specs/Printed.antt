-- The text that a filter is printed as.
use Rattle.std.specs.Prelude.{ℕ, List, [], ◌∷◌, ◌++◌, ◌==◌, if◌then◌else◌, codes}
use Rattle.cap_filter.specs.Rule.{Rule, all, nothing, is, starts, ends, negation, conjunction, disjunction}
use Rattle.cap_filter.specs.Rule.{Rules, no_rules, rule}

abbrev pub quote : ℕ
quote = 39

-- the word with each quote doubled
abbrev pub double_quotes : List ℕ → List ℕ
double_quotes [] = []
double_quotes (byte ∷ rest) =
    if byte == quote then quote ∷ quote ∷ double_quotes rest else byte ∷ double_quotes rest

-- between quotes
abbrev pub quoted : List ℕ → List ℕ
quoted word = quote ∷ double_quotes word ++ quote ∷ []

abbrev mutual
  pub filter_text : Rule → List ℕ
  filter_text all = codes "all"
  filter_text nothing = codes "nothing"
  filter_text (is w) = codes "is " ++ quoted w
  filter_text (starts w) = codes "starts " ++ quoted w
  filter_text (ends w) = codes "ends " ++ quoted w
  filter_text (negation r) = codes "not " ++ filter_text r
  filter_text (conjunction rs) = codes "and(" ++ members_text rs ++ codes ")"
  filter_text (disjunction rs) = codes "or(" ++ members_text rs ++ codes ")"

  -- with a comma between each and the next
  pub members_text : Rules → List ℕ
  members_text no_rules = []
  members_text (rule r rs) = filter_text r ++ more_text rs

  pub more_text : Rules → List ℕ
  more_text no_rules = []
  more_text (rule r rs) = codes "," ++ filter_text r ++ more_text rs
