-- The text of rows, one value and one row at a time.
use Rattle.std.proofs.Common.{◌≡◌, ℕ, ◌+◌, ◌<◌, List, ◌∷◌, ◌++◌, cond, Option, Result, Ok, Err, Bor, length, get_or, drop, drop-cons, add-one, sym, ap, ap₂, ◌∙◌, append_assoc, codes}
use Rattle.std.specs.List.{flat_map}
use Rattle.std.specs.Option.{option_copied}
use Rattle.std.specs.Prelude.{OnOk}
use Rattle.std.specs.Result.{is_ok, result_map_both}
use Rattle.cap_value.specs.declared.refusal.Refusal.{Refusal}
use Rattle.cap_value.specs.declared.value.Value.{Value}
use Rattle.cap_row.specs.Fields.{Fields}
use Rattle.cap_table.specs.declared.row_ref.RowRef.{RowRef}
use Rattle.cap_database.specs.Read.{Lends}
use Rattle.cap_show.specs.ShowText.{value_text}
use Rattle.cap_script.specs.RowText.{more_values, named_row_text, rows_text}

-- the item at a place, and what comes after it
pub drop-item : {X : Type 0} (xs : List X) (i : ℕ) (x : X) → i < length xs → x ≡ get_or xs i x → drop i xs ≡ x ∷ drop (i + 1) xs
drop-item xs i x lt is = drop-cons xs i x lt ∙ ap₂ (λ y k. y ∷ drop k xs) (sym is) (sym (add-one i))

-- a text that is written piece by piece, one piece more
pub one_more_at : {X : Type 0} (f : X → List ℕ) (xs : List X) (i : ℕ) (d : X) (old new all : List ℕ) → i < length xs → new ≡ old ++ f (get_or xs i d) → old ++ flat_map f (drop i xs) ≡ all → new ++ flat_map f (drop (i + 1) xs) ≡ all
one_more_at f xs i d old new all lt more so_far =
    let rest : drop i xs ≡ get_or xs i d ∷ drop (i + 1) xs = drop-cons xs i d lt ∙ ap (λ k. get_or xs i d ∷ drop k xs) (sym (add-one i)) in
    ap (λ (l : List ℕ). l ++ flat_map f (drop (i + 1) xs)) more ∙ append_assoc old (f (get_or xs i d)) (flat_map f (drop (i + 1) xs))
    ∙ ap (λ ys. old ++ flat_map f ys) (sym rest) ∙ so_far

-- a text that is pushed
pub pushed : {E : Type 0} (r : Result Unit E) (new old more : List ℕ) → new ≡ cond (is_ok r) (old ++ more) old → OnOk r (new ≡ old ++ more)
pushed (Ok done) new old more is = is
pushed (Err why) new old more is = tt

module _ {A : Type 0} where
  pub one_more_value : (out more : List ℕ) (value : Value A) (rest : Fields A) → more ≡ out ++ (codes "," ++ value_text value) → more ++ more_values rest ≡ out ++ more_values (value ∷ rest)
  one_more_value out more value rest is = ap (λ (l : List ℕ). l ++ more_values rest) is ∙ append_assoc out (codes "," ++ value_text value) (more_values rest)

  pub one_more_row : (out more : List ℕ) (row : RowRef A × Fields A) (rest : List (RowRef A × Fields A)) → more ≡ out ++ 10 ∷ named_row_text row → more ++ rows_text rest ≡ out ++ rows_text (row ∷ rest)
  one_more_row out more row rest is = ap (λ (l : List ℕ). l ++ rows_text rest) is ∙ append_assoc out (10 ∷ named_row_text row) (rows_text rest)

  -- a row that is lent
  pub lent_row : (found : Result (Option (Bor (Fields A))) Refusal) (answer : Result (Option (Fields A)) Refusal) → Lends found answer → result_map_both option_copied (λ why. why) found ≡ answer
  lent_row (Ok row) answer is = sym is
  lent_row (Err why) answer is = sym is
