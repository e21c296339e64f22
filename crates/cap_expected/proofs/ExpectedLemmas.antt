-- A text that is written piece by piece.
use Rattle.std.proofs.Common.{◌≡◌, ℕ, ◌+◌, ◌<◌, List, ◌∷◌, ◌++◌, length, get_or, drop, drop-cons, add-one, sym, ap, ◌∙◌, append_assoc}
use Rattle.std.specs.List.{flat_map}

-- one piece more
pub one_more_at : {X : Type 0} (f : X → List ℕ) (xs : List X) (i : ℕ) (d : X) (old new all : List ℕ) → i < length xs → new ≡ old ++ f (get_or xs i d) → old ++ flat_map f (drop i xs) ≡ all → new ++ flat_map f (drop (i + 1) xs) ≡ all
one_more_at f xs i d old new all lt more so_far =
    let rest : drop i xs ≡ get_or xs i d ∷ drop (i + 1) xs = drop-cons xs i d lt ∙ ap (λ k. get_or xs i d ∷ drop k xs) (sym (add-one i)) in
    ap (λ (l : List ℕ). l ++ flat_map f (drop (i + 1) xs)) more ∙ append_assoc old (f (get_or xs i d)) (flat_map f (drop (i + 1) xs))
    ∙ ap (λ ys. old ++ flat_map f ys) (sym rest) ∙ so_far
