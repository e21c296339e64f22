-- What is written piece by piece.
use mathlib.Core.List.{IsPrefix}
use Rattle.std.proofs.Common.{◌≡◌, ℕ, false, eqb, List, [], ◌∷◌, ◌++◌, refl, sym, ap, ◌∙◌, append_assoc}
use Rattle.cap_filter.specs.Printed.{quote, double_quotes}
use Rattle.cap_filter.specs.Tokens.{has_quote}
use Rattle.cap_filter.proofs.TokenLemmas.{or_parts}

-- ---- quotes

pub doubled_plain : (w : List ℕ) → has_quote w ≡ false → double_quotes w ≡ w
doubled_plain [] e = refl
doubled_plain (byte ∷ rest) e =
    let parts = or_parts (eqb byte quote) (has_quote rest) e in
    rw parts.0 (ap (λ (l : List ℕ). byte ∷ l) (doubled_plain rest parts.1))

pub doubled_cut : (piece after : List ℕ) → has_quote piece ≡ false → double_quotes (piece ++ quote ∷ after) ≡ piece ++ quote ∷ quote ∷ double_quotes after
doubled_cut [] after e = refl
doubled_cut (byte ∷ piece) after e =
    let parts = or_parts (eqb byte quote) (has_quote piece) e in
    rw parts.0 (ap (λ (l : List ℕ). byte ∷ l) (doubled_cut piece after parts.1))

-- ---- pieces one after another

pub three : (out a l z out0 out1 out2 : List ℕ) → out0 ≡ out ++ a → out1 ≡ out0 ++ l → out2 ≡ out1 ++ z → out2 ≡ out ++ (a ++ l ++ z)
three out a l z out0 out1 out2 e0 e1 e2 = e2 ∙ rw (e1, e0) (simp append_assoc)

pub one_member_more : (out a r rest out0 out1 : List ℕ) → out0 ≡ out ++ a → out1 ≡ out0 ++ r → out1 ++ rest ≡ out ++ (a ++ r ++ rest)
one_member_more out a r rest out0 out1 e0 e1 = rw (e1, e0) (simp append_assoc)

pub one_piece_more : (out piece after whole start out0 out1 : List ℕ) → has_quote piece ≡ false → out ++ double_quotes (piece ++ quote ∷ after) ≡ start ++ whole → out0 ≡ out ++ piece → out1 ≡ out0 ++ quote ∷ quote ∷ [] →
    out1 ++ double_quotes after ≡ start ++ whole
one_piece_more out piece after whole start out0 out1 plain so_far e0 e1 =
    let here : out1 ++ double_quotes after ≡ out ++ double_quotes (piece ++ quote ∷ after) = rw (e1, e0, doubled_cut piece after plain) (simp append_assoc) in
    here ∙ so_far

pub last_piece : (out rest word start out0 out1 : List ℕ) → has_quote rest ≡ false → out ++ double_quotes rest ≡ start ++ double_quotes word → out0 ≡ out ++ rest → out1 ≡ out0 ++ quote ∷ [] →
    out1 ≡ start ++ double_quotes word ++ quote ∷ []
last_piece out rest word start out0 out1 plain so_far e0 e1 =
    let written : out0 ≡ start ++ double_quotes word = e0 ∙ ap (λ (l : List ℕ). out ++ l) (sym (doubled_plain rest plain)) ∙ so_far in
    e1 ∙ ap (λ (l : List ℕ). l ++ quote ∷ []) written

-- what stood at the beginning still does, behind two pieces more
pub begins_more : (start out piece more out0 out1 : List ℕ) → IsPrefix start out → out0 ≡ out ++ piece → out1 ≡ out0 ++ more → IsPrefix start out1
begins_more start out piece more out0 out1 (rest, so) e0 e1 = (rest ++ piece ++ more, rw (e1, e0, ← so) (simp append_assoc))
