-- What a token that does not fit gives, where another is read for.
use Rattle.std.proofs.Common.{◌≡◌, ◌≢◌, ℕ, Bool, true, false, cond, eqb, List, [], ◌∷◌, ◌++◌, None, Err, ◌⊎◌, inl, inr, refl, ap, ◌∙◌}
use Rattle.std.specs.Borrow.{Bor}
use Rattle.cap_filter.specs.Printed.{quote}
use Rattle.cap_filter.specs.Read.{BeginsAs}
use Rattle.cap_filter.specs.Reading.{keyword_at, opening_at, closing_at, separator_at, end_at}
use Rattle.cap_filter.specs.Tokens.{quoted, other, Tokens, inside, behind_quote, tokens_from}
use Rattle.cap_filter.specs.declared.reading.Stop.TheVariants.{Unfit}
use Rattle.cap_filter.specs.declared.token.Token.{Token}
use Rattle.cap_filter.specs.declared.token.Token.TheVariants.{Word, Opening, Closing, Comma, Quote, Other, End}

-- the first token is a quoted text, or a quote that is not closed
abbrev QuotedFirst : ℕ → Tokens → Type 0
QuotedFirst left tokens = ((w : List ℕ) × (more : Tokens) × (tokens ≡ (left, quoted w) ∷ more)) ⊎ ((more : Tokens) × (tokens ≡ (left, other) ∷ more))

module _ (left : ℕ) where
  quoted_firsts : (rest : List ℕ) → ((w : List ℕ) → QuotedFirst left (tokens_from (inside left w) rest)) × ((w : List ℕ) → QuotedFirst left (tokens_from (behind_quote left w) rest))
  unfolding tokens_from
  quoted_firsts [] = (λ w. inr ([], refl), λ w. inl (w, [], refl))
  quoted_firsts (byte ∷ rest) =
      let others = quoted_firsts rest in (
        λ w. elim (eqb byte quote) as (λ b. QuotedFirst left (cond b (tokens_from (behind_quote left w) rest) (tokens_from (inside left (w ++ byte ∷ [])) rest))) [ true ↦ others.1 w | false ↦ others.0 (w ++ byte ∷ []) ],
        λ w. behind_first (eqb byte quote) w _ _ (others.0 (w ++ quote ∷ [])),
      )
    where
      behind_first : (b : Bool) (w : List ℕ) (goes_on more : Tokens) → QuotedFirst left goes_on → QuotedFirst left (cond b goes_on ((left, quoted w) ∷ more))
      behind_first true w goes_on more h = h
      behind_first false w goes_on more h = inl (w, more, refl)

  quoted_first : {X : Type 0} (f : Tokens → X) (x : X) → ((w : List ℕ) (more : Tokens) → f ((left, quoted w) ∷ more) ≡ x) → ((more : Tokens) → f ((left, other) ∷ more) ≡ x)
      → (tokens : Tokens) → QuotedFirst left tokens → f tokens ≡ x
  quoted_first f x at_quoted at_other tokens (inl (w, more, e)) = ap f e ∙ at_quoted w more
  quoted_first f x at_quoted at_other tokens (inr (more, e)) = ap f e ∙ at_other more

  pub no_keyword : (tokens : Tokens) (rest : List ℕ) (token : Token) → BeginsAs tokens left rest token → ((w : Bor (List ℕ)) → token ≢ Word w) → keyword_at tokens ≡ Err (Unfit left)
  no_keyword tokens rest (Word w) begins not_Word = absurd (not_Word w refl)
  no_keyword tokens rest Opening begins not_Word = ap keyword_at begins
  no_keyword tokens rest Closing begins not_Word = ap keyword_at begins
  no_keyword tokens rest Comma begins not_Word = ap keyword_at begins
  no_keyword tokens rest Quote begins not_Word = ap keyword_at begins ∙ quoted_first keyword_at (Err (Unfit left)) (λ w more. refl) (λ more. refl) (tokens_from (inside left []) rest) ((quoted_firsts rest).0 [])
  no_keyword tokens rest Other begins not_Word = ap keyword_at begins.1
  no_keyword tokens rest End begins not_Word = rw (begins.0, begins.1) refl

  pub no_opening : (tokens : Tokens) (rest : List ℕ) (token : Token) → BeginsAs tokens left rest token → token ≢ Opening → opening_at tokens ≡ Err (Unfit left)
  no_opening tokens rest (Word w) begins not_Opening = ap opening_at begins
  no_opening tokens rest Opening begins not_Opening = absurd (not_Opening refl)
  no_opening tokens rest Closing begins not_Opening = ap opening_at begins
  no_opening tokens rest Comma begins not_Opening = ap opening_at begins
  no_opening tokens rest Quote begins not_Opening = ap opening_at begins ∙ quoted_first opening_at (Err (Unfit left)) (λ w more. refl) (λ more. refl) (tokens_from (inside left []) rest) ((quoted_firsts rest).0 [])
  no_opening tokens rest Other begins not_Opening = ap opening_at begins.1
  no_opening tokens rest End begins not_Opening = rw (begins.0, begins.1) refl

  pub no_closing : (tokens : Tokens) (rest : List ℕ) (token : Token) → BeginsAs tokens left rest token → token ≢ Closing → closing_at tokens ≡ None
  no_closing tokens rest (Word w) begins not_Closing = ap closing_at begins
  no_closing tokens rest Opening begins not_Closing = ap closing_at begins
  no_closing tokens rest Closing begins not_Closing = absurd (not_Closing refl)
  no_closing tokens rest Comma begins not_Closing = ap closing_at begins
  no_closing tokens rest Quote begins not_Closing = ap closing_at begins ∙ quoted_first closing_at (None) (λ w more. refl) (λ more. refl) (tokens_from (inside left []) rest) ((quoted_firsts rest).0 [])
  no_closing tokens rest Other begins not_Closing = ap closing_at begins.1
  no_closing tokens rest End begins not_Closing = rw begins.0 refl

  pub no_separator : (tokens : Tokens) (rest : List ℕ) (token : Token) → BeginsAs tokens left rest token → token ≢ Comma → token ≢ Closing → separator_at tokens ≡ Err (Unfit left)
  no_separator tokens rest (Word w) begins not_Comma not_Closing = ap separator_at begins
  no_separator tokens rest Opening begins not_Comma not_Closing = ap separator_at begins
  no_separator tokens rest Closing begins not_Comma not_Closing = absurd (not_Closing refl)
  no_separator tokens rest Comma begins not_Comma not_Closing = absurd (not_Comma refl)
  no_separator tokens rest Quote begins not_Comma not_Closing = ap separator_at begins ∙ quoted_first separator_at (Err (Unfit left)) (λ w more. refl) (λ more. refl) (tokens_from (inside left []) rest) ((quoted_firsts rest).0 [])
  no_separator tokens rest Other begins not_Comma not_Closing = ap separator_at begins.1
  no_separator tokens rest End begins not_Comma not_Closing = rw (begins.0, begins.1) refl

  pub no_end : (tokens : Tokens) (rest : List ℕ) (token : Token) → BeginsAs tokens left rest token → token ≢ End → end_at tokens ≡ Err (Unfit left)
  no_end tokens rest (Word w) begins not_End = ap end_at begins
  no_end tokens rest Opening begins not_End = ap end_at begins
  no_end tokens rest Closing begins not_End = ap end_at begins
  no_end tokens rest Comma begins not_End = ap end_at begins
  no_end tokens rest Quote begins not_End = ap end_at begins ∙ quoted_first end_at (Err (Unfit left)) (λ w more. refl) (λ more. refl) (tokens_from (inside left []) rest) ((quoted_firsts rest).0 [])
  no_end tokens rest Other begins not_End = ap end_at begins.1
  no_end tokens rest End begins not_End = absurd (not_End refl)
