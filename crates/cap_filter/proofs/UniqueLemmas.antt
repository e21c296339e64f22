-- The tokens of a text spell one filter at most.
use Rattle.std.proofs.Common.{◌≡◌, ℕ, List, [], ◌∷◌, Option, Some, codes, refl, sym, ap, ◌∙◌, subst}
use Rattle.cap_filter.specs.Grammar.{Begins, BeginsWith, BeginsList, Spelled, SpelledMembers, SpelledMore, Spells}
use Rattle.cap_filter.specs.Reading.{keyword_at}
use Rattle.cap_filter.specs.Rule.{Rule, all, nothing, is, starts, ends, negation, conjunction, disjunction, Rules, no_rules, rule}
use Rattle.cap_filter.specs.Tokens.{Token, word, opening, closing, comma, Tokens, tokens_of, text_of}
use Rattle.cap_filter.specs.declared.reading.Keyword.{Keyword}
use Rattle.cap_filter.specs.declared.reading.Keyword.TheVariants as keywords
use Rattle.cap_filter.proofs.RunLemmas.{gave, ok_parts}
use Rattle.cap_filter.proofs.SpelledLemmas.{at_keyword, FirstWord, first_word}

pub same_begin : (tokens : Tokens) (t u : Token) (a b : Tokens) → Begins tokens t a → Begins tokens u b → (t ≡ u) × (a ≡ b)
same_begin tokens t u a b p q =
    let whole : ◌≡◌ {A = Tokens} ((p.0, t) ∷ a) ((q.0, u) ∷ b) = sym p.1 ∙ q.1 in
    let first : ◌≡◌ {A = ℕ × Token} (p.0, t) (q.0, u) = cc in
    (ap (λ (x : ℕ × Token). x.1) first, cc)

same_with : (tokens : Tokens) (k v w : List ℕ) (a b : Tokens) → BeginsWith tokens k v a → BeginsWith tokens k w b → (v ≡ w) × (a ≡ b)
same_with tokens k v w a b p q =
    let behind = same_begin tokens (word k) (word k) p.0 q.0 p.1 q.1 in
    let texts = same_begin p.0 p.2 q.2 a b p.4 (subst (λ (l : Tokens). Begins l q.2 b) (sym behind.1) q.4) in
    let found : ◌≡◌ {A = Option (List ℕ)} (Some v) (Some w) = sym p.3 ∙ ap text_of texts.0 ∙ q.3 in
    (cc, texts.1)

same_list : (tokens : Tokens) (k : List ℕ) (a b : Tokens) → BeginsList tokens k a → BeginsList tokens k b → a ≡ b
same_list tokens k a b p q =
    let behind = same_begin tokens (word k) (word k) p.0 q.0 p.1 q.1 in
    (same_begin p.0 opening opening a b p.2 (subst (λ (l : Tokens). Begins l opening b) (sym behind.1) q.2)).1

-- the keyword that a filter begins with
abbrev keyword : Rule → Keyword
keyword all = keywords.All
keyword nothing = keywords.Nothing
keyword (is w) = keywords.Is
keyword (starts w) = keywords.Starts
keyword (ends w) = keywords.Ends
keyword (negation r) = keywords.Not
keyword (conjunction rs) = keywords.And
keyword (disjunction rs) = keywords.Or

abbrev IsKeyword : Rule → Tokens → Type 0
IsKeyword r tokens = (rest : Tokens) × (keyword_at tokens ≡ gave (keyword r, rest))

is_keyword : (r : Rule) (tokens rest : Tokens) → Spelled r tokens rest → IsKeyword r tokens
is_keyword all tokens rest h = (rest, at_keyword keywords.All tokens rest h)
is_keyword nothing tokens rest h = (rest, at_keyword keywords.Nothing tokens rest h)
is_keyword (is w) tokens rest h = (h.0, at_keyword keywords.Is tokens h.0 h.1)
is_keyword (starts w) tokens rest h = (h.0, at_keyword keywords.Starts tokens h.0 h.1)
is_keyword (ends w) tokens rest h = (h.0, at_keyword keywords.Ends tokens h.0 h.1)
is_keyword (negation r) tokens rest h = (h.0, at_keyword keywords.Not tokens h.0 h.1)
is_keyword (conjunction rs) tokens rest h = (h.1.0, at_keyword keywords.And tokens h.1.0 h.1.1)
is_keyword (disjunction rs) tokens rest h = (h.1.0, at_keyword keywords.Or tokens h.1.0 h.1.1)

same_keyword : (r s : Rule) (tokens a b : Tokens) → Spelled r tokens a → Spelled s tokens b → keyword r ≡ keyword s
same_keyword r s tokens a b p q =
    let first = is_keyword r tokens a p in
    let second = is_keyword s tokens b q in
    (ok_parts (keyword r) (keyword s) first.0 second.0 (sym first.1 ∙ second.1)).0

no_closing : (tokens rest : Tokens) → Begins tokens closing rest → FirstWord tokens → ⊥
no_closing tokens rest h first = let same : closing ≡ word first.0 = (same_begin tokens closing (word first.0) rest first.1 h first.2).0 in absurd cc

no_comma : (tokens a b : Tokens) → Begins tokens closing a → Begins tokens comma b → ⊥
no_comma tokens a b p q = let same : closing ≡ comma = (same_begin tokens closing comma a b p q).0 in absurd cc

mutual
  one_rule : (r s : Rule) (tokens a b : Tokens) → Spelled r tokens a → Spelled s tokens b → (r ≡ s) × (a ≡ b)
  one_rule all all tokens a b p q = (refl, (same_begin tokens (word (codes "all")) (word (codes "all")) a b p q).1)
  one_rule nothing nothing tokens a b p q = (refl, (same_begin tokens (word (codes "nothing")) (word (codes "nothing")) a b p q).1)
  one_rule (is v) (is w) tokens a b p q = let same = same_with tokens (codes "is") v w a b p q in (ap is same.0, same.1)
  one_rule (starts v) (starts w) tokens a b p q = let same = same_with tokens (codes "starts") v w a b p q in (ap starts same.0, same.1)
  one_rule (ends v) (ends w) tokens a b p q = let same = same_with tokens (codes "ends") v w a b p q in (ap ends same.0, same.1)
  one_rule (negation r) (negation s) tokens a b p q =
      let behind = same_begin tokens (word (codes "not")) (word (codes "not")) p.0 q.0 p.1 q.1 in
      let same = one_rule r s p.0 a b p.2 (subst (λ (l : Tokens). Spelled s l b) (sym behind.1) q.2) in
      (ap negation same.0, same.1)
  one_rule (conjunction rs) (conjunction ss) tokens a b p q =
      let behind = same_list tokens (codes "and") p.0 q.0 p.1 q.1 in
      let same = one_list rs ss p.0 a b p.2 (subst (λ (l : Tokens). SpelledMembers ss l b) (sym behind) q.2) in
      (ap conjunction same.0, same.1)
  one_rule (disjunction rs) (disjunction ss) tokens a b p q =
      let behind = same_list tokens (codes "or") p.0 q.0 p.1 q.1 in
      let same = one_list rs ss p.0 a b p.2 (subst (λ (l : Tokens). SpelledMembers ss l b) (sym behind) q.2) in
      (ap disjunction same.0, same.1)
  one_rule r s tokens a b p q = let same : keyword r ≡ keyword s = same_keyword r s tokens a b p q in absurd cc

  one_list : (rs ss : Rules) (tokens a b : Tokens) → SpelledMembers rs tokens a → SpelledMembers ss tokens b → (rs ≡ ss) × (a ≡ b)
  one_list no_rules no_rules tokens a b p q = (refl, (same_begin tokens closing closing a b p q).1)
  one_list no_rules (rule s ss) tokens a b p q = absurd (no_closing tokens a p (first_word s tokens q.0 q.1))
  one_list (rule r rs) no_rules tokens a b p q = absurd (no_closing tokens b q (first_word r tokens p.0 p.1))
  one_list (rule r rs) (rule s ss) tokens a b p q =
      let first = one_rule r s tokens p.0 q.0 p.1 q.1 in
      let others = one_rest rs ss p.0 a b p.2 (subst (λ (l : Tokens). SpelledMore ss l b) (sym first.1) q.2) in
      (rw (first.0, others.0) refl, others.1)

  one_rest : (rs ss : Rules) (tokens a b : Tokens) → SpelledMore rs tokens a → SpelledMore ss tokens b → (rs ≡ ss) × (a ≡ b)
  one_rest no_rules no_rules tokens a b p q = (refl, (same_begin tokens closing closing a b p q).1)
  one_rest no_rules (rule s ss) tokens a b p q = absurd (no_comma tokens a q.0 p q.1)
  one_rest (rule r rs) no_rules tokens a b p q = absurd (no_comma tokens b p.0 q p.1)
  one_rest (rule r rs) (rule s ss) tokens a b p q =
      let behind = same_begin tokens comma comma p.0 q.0 p.1 q.1 in
      let first = one_rule r s p.0 p.2 q.2 p.3 (subst (λ (l : Tokens). Spelled s l q.2) (sym behind.1) q.3) in
      let others = one_rest rs ss p.2 a b p.4 (subst (λ (l : Tokens). SpelledMore ss l b) (sym first.1) q.4) in
      (rw (first.0, others.0) refl, others.1)

pub Spells-one : (text : List ℕ) (r s : Rule) → Spells text r → Spells text s → r ≡ s
unfolding Spells
Spells-one text r s p q = (one_rule r s (tokens_of text) [] [] p q).0
