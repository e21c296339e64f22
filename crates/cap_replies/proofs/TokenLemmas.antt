-- Tokens that are written one after the other.
use Rattle.std.proofs.Common.{◌≡◌, ◌∙◌, List, ◌++◌, Result, Ok, Err, ap, append_assoc}
use Rattle.cap_show.specs.Json.{Appends}
use Rattle.json.specs.Token.{Token}
use Rattle.json.specs.Written.{Written}

-- some tokens, and then others
pub appends_more : {E : Type 0} (r : Result (Unit {0}) E) (a b c : Written) (x y z : List Token) → (b.tokens ≡ a.tokens ++ x) × (b.before ≡ a.before) → Appends r b c y → x ++ y ≡ z → Appends r a c z
appends_more (Ok done) a b c x y z (some, same) (more, kept) is =
    (more ∙ ap (λ (l : List Token). l ++ y) some ∙ append_assoc a.tokens x y ∙ ap (λ (l : List Token). a.tokens ++ l) is, kept ∙ same)
appends_more (Err e) a b c x y z some more is = tt
