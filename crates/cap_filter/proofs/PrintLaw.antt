-- What is printed spells its filter.
use Rattle.std.proofs.Common.{◌≡◌, ◌≢◌, ℕ, Bool, true, false, eqb, cond, List, [], ◌∷◌, ◌++◌, length, codes, refl, sym, ap, ◌∙◌, subst, append_assoc, append-nil}
use Rattle.std.proofs.lemmas.Bool.{eqb-true, eqb-false}
use Rattle.cap_filter.specs.Grammar.{Begins, BeginsWord, BeginsWith, BeginsList, Spelled, SpelledMembers, SpelledMore, Spells}
use Rattle.cap_filter.specs.Printed.{quote, double_quotes, quoted as quoted_text, filter_text, members_text, more_text}
use Rattle.cap_filter.specs.Rule.{Rule, all, nothing, is, starts, ends, negation, conjunction, disjunction, Rules, no_rules, rule}
use Rattle.cap_filter.specs.Tokens.{word, quoted, closing, Tokens, blank, is_word, begins_word, inside, tokens_from, tokens_of}
use Rattle.cap_filter.proofs.TokenLemmas.{blank_skipped, opening_first, closing_first, comma_first, quote_first, word_first, closed}

-- the text goes on neither with a word nor with a quote
record IsBounded (text : List ℕ) : Type 0 where
  no_word : begins_word text ≡ false
  no_quote : (rest : List ℕ) → text ≢ quote ∷ rest

-- ---- quoted texts

one_byte : (b : Bool) (byte : ℕ) (w u : List ℕ) (left : ℕ) (v : List ℕ) → eqb byte quote ≡ b → ((x : List ℕ) → tokens_from (inside left x) (double_quotes w ++ quote ∷ u) ≡ (left, quoted (x ++ w)) ∷ tokens_of u) →
    tokens_from (inside left v) (cond b (quote ∷ quote ∷ double_quotes w) (byte ∷ double_quotes w) ++ quote ∷ u) ≡ (left, quoted (v ++ byte ∷ w)) ∷ tokens_of u
unfolding tokens_from
one_byte true byte w u left v e others =
    others (v ++ quote ∷ []) ∙ ap (λ (l : List ℕ). (left, quoted l) ∷ tokens_of u) (append_assoc v (quote ∷ []) w ∙ ap (λ (b : ℕ). v ++ b ∷ w) (sym (eqb-true byte quote e)))
one_byte false byte w u left v e others = rw e (others (v ++ byte ∷ []) ∙ ap (λ (l : List ℕ). (left, quoted l) ∷ tokens_of u) (append_assoc v (byte ∷ []) w))

quoted_inside : (w u : List ℕ) (left : ℕ) (v : List ℕ) → IsBounded u → tokens_from (inside left v) (double_quotes w ++ quote ∷ u) ≡ (left, quoted (v ++ w)) ∷ tokens_of u
unfolding tokens_from
quoted_inside [] u left v h = closed u left v h.no_quote ∙ ap (λ (l : List ℕ). (left, quoted l) ∷ tokens_of u) (sym (append-nil v))
quoted_inside (byte ∷ w) u left v h = one_byte (eqb byte quote) byte w u left v refl (λ x. quoted_inside w u left x h)

quoted_begins : (w u : List ℕ) → IsBounded u → Begins (tokens_of (quoted_text w ++ u)) (quoted w) (tokens_of u)
quoted_begins w u h =
    let whole : quoted_text w ++ u ≡ quote ∷ (double_quotes w ++ quote ∷ u) = append_assoc (quote ∷ double_quotes w) (quote ∷ []) u in
    (length (quoted_text w ++ u), quote_first (quoted_text w ++ u) (double_quotes w ++ quote ∷ u) whole ∙ quoted_inside w u (length (quoted_text w ++ u)) [] h)

-- ---- words

word_begins : (w u : List ℕ) → is_word w ≡ true → eqb (length w) 0 ≡ false → begins_word u ≡ false → BeginsWord (tokens_of (w ++ u)) w (tokens_of u)
word_begins w u all_word some ends_here = (length (w ++ u), word_first w u all_word ends_here some)

-- and a blank behind the word
blank_behind : (w u : List ℕ) → is_word w ≡ true → eqb (length w) 0 ≡ false → BeginsWord (tokens_of (w ++ blank ∷ u)) w (tokens_of u)
blank_behind w u all_word some =
    let h = word_begins w (blank ∷ u) all_word some refl in
    (h.0, h.1 ∙ ap (λ (l : Tokens). (h.0, word w) ∷ l) (blank_skipped (blank ∷ u) u refl))

compared_begins : (k w u : List ℕ) → is_word k ≡ true → eqb (length k) 0 ≡ false → IsBounded u → BeginsWith (tokens_of (k ++ blank ∷ (quoted_text w ++ u))) k w (tokens_of u)
compared_begins k w u all_word some h = (tokens_of (quoted_text w ++ u), blank_behind k (quoted_text w ++ u) all_word some, quoted w, refl, quoted_begins w u h)

list_begins : (k u : List ℕ) → is_word k ≡ true → eqb (length k) 0 ≡ false → BeginsList (tokens_of (k ++ 40 ∷ u)) k (tokens_of u)
list_begins k u all_word some = (tokens_of (40 ∷ u), word_begins k (40 ∷ u) all_word some refl, (length (40 ∷ u), opening_first (40 ∷ u) u refl))

-- ---- filters

abbrev head : List ℕ → ℕ
head [] = 0
head (x ∷ xs) = x

no_quote_first : (x : ℕ) (xs rest : List ℕ) → eqb x quote ≡ false → x ∷ xs ≢ quote ∷ rest
no_quote_first x xs rest other e = eqb-false x quote other (ap head e)

IsBounded-rest : (rs : Rules) (u : List ℕ) → IsBounded ((more_text rs ++ codes ")") ++ u)
IsBounded-rest no_rules u = record { no_word = refl; no_quote = λ rest e. no_quote_first 41 _ rest refl e }
IsBounded-rest (rule r rs) u = record { no_word = refl; no_quote = λ rest e. no_quote_first 44 _ rest refl e }

closing_begins : (u : List ℕ) → Begins (tokens_of (41 ∷ u)) closing (tokens_of u)
closing_begins u = (length (41 ∷ u), closing_first (41 ∷ u) u refl)

regrouped : (a b z u : List ℕ) → ((a ++ b) ++ z) ++ u ≡ a ++ ((b ++ z) ++ u)
regrouped a b z u = simp append_assoc

mutual
  is_spelled : (r : Rule) (u : List ℕ) → IsBounded u → Spelled r (tokens_of (filter_text r ++ u)) (tokens_of u)
  is_spelled all u h = word_begins (codes "all") u refl refl h.no_word
  is_spelled nothing u h = word_begins (codes "nothing") u refl refl h.no_word
  is_spelled (is w) u h = compared_begins (codes "is") w u refl refl h
  is_spelled (starts w) u h = compared_begins (codes "starts") w u refl refl h
  is_spelled (ends w) u h = compared_begins (codes "ends") w u refl refl h
  is_spelled (negation r) u h = (tokens_of (filter_text r ++ u), blank_behind (codes "not") (filter_text r ++ u) refl refl, is_spelled r u h)
  is_spelled (conjunction rs) u h =
      (tokens_of ((members_text rs ++ codes ")") ++ u), list_begins (codes "and") ((members_text rs ++ codes ")") ++ u) refl refl, members_are_spelled rs u)
  is_spelled (disjunction rs) u h =
      (tokens_of ((members_text rs ++ codes ")") ++ u), list_begins (codes "or") ((members_text rs ++ codes ")") ++ u) refl refl, members_are_spelled rs u)

  members_are_spelled : (rs : Rules) (u : List ℕ) → SpelledMembers rs (tokens_of ((members_text rs ++ codes ")") ++ u)) (tokens_of u)
  members_are_spelled no_rules u = closing_begins u
  members_are_spelled (rule r rs) u =
      subst (λ (l : List ℕ). SpelledMembers (rule r rs) (tokens_of l) (tokens_of u)) (sym (regrouped (filter_text r) (more_text rs) (codes ")") u))
      (tokens_of ((more_text rs ++ codes ")") ++ u), is_spelled r ((more_text rs ++ codes ")") ++ u) (IsBounded-rest rs u), more_are_spelled rs u)

  more_are_spelled : (rs : Rules) (u : List ℕ) → SpelledMore rs (tokens_of ((more_text rs ++ codes ")") ++ u)) (tokens_of u)
  more_are_spelled no_rules u = closing_begins u
  more_are_spelled (rule r rs) u =
      let member = filter_text r ++ ((more_text rs ++ codes ")") ++ u) in
      let whole : 44 ∷ (((filter_text r ++ more_text rs) ++ codes ")") ++ u) ≡ 44 ∷ member = ap (λ (l : List ℕ). 44 ∷ l) (regrouped (filter_text r) (more_text rs) (codes ")") u) in
      subst (λ (l : List ℕ). SpelledMore (rule r rs) (tokens_of l) (tokens_of u)) (sym whole)
      (tokens_of member, (length (44 ∷ member), comma_first (44 ∷ member) member refl), tokens_of ((more_text rs ++ codes ")") ++ u), is_spelled r ((more_text rs ++ codes ")") ++ u) (IsBounded-rest rs u), more_are_spelled rs u)

pub Spells-filter_text : (r : Rule) → Spells (filter_text r) r
unfolding Spells tokens_from
Spells-filter_text r =
    let nothing_behind : IsBounded [] = record { no_word = refl; no_quote = λ rest e. absurd cc } in
    subst (λ (l : List ℕ). Spelled r (tokens_of l) []) (append-nil (filter_text r)) (is_spelled r [] nothing_behind)
