-- The fields of the columns before one, and the numbers of changes.
use Rattle.std.proofs.Common.{◌≡◌, ◌∙◌, ℕ, ◌+◌, zero, suc, List, [], ◌∷◌, ◌++◌, Option, ap, arith, sym, take}
use Rattle.std.proofs.lemmas.List.Sums.{sum_by-cons}
use Rattle.std.specs.Prelude.{slice_index_or, sum}
use Rattle.cap_value.specs.declared.value.Value.{Value}
use Rattle.cap_changes.specs.Field.{field_bytes}
use Rattle.cap_connection.specs.Fields.{fields_before}

-- one field more
pub one_more : {A : Type 0} (field : ℕ → Option (Value A)) (column : ℕ) (found : Option (Value A)) (before after : List ℕ)
    → found ≡ field column → after ≡ before ++ field_bytes found → before ≡ fields_before field column
    → after ≡ fields_before field (column + 1)
one_more field column found before after is pushed had =
    let n : suc column ≡ column + 1 = omega arith in
    pushed ∙ ap (λ (f : Option (Value _)). before ++ field_bytes f) is ∙ ap (λ (b : List ℕ). b ++ field_bytes (field column)) had
    ∙ ap (fields_before field) n

-- one group more
pub sum_more : (sizes : List ℕ) (group : ℕ) → sum (take (group + 1) sizes) ≡ sum (take group sizes) + slice_index_or sizes group 0
sum_more sizes group =
    let n : suc group ≡ group + 1 = omega arith in
    sym (ap (λ (k : ℕ). sum (take k sizes)) n) ∙ next sizes group where
      next : (sizes : List ℕ) (group : ℕ) → sum (take (suc group) sizes) ≡ sum (take group sizes) + slice_index_or sizes group 0
      next [] zero = omega arith
      next [] (suc group) = omega arith
      next (size ∷ sizes) zero = omega arith
      next (size ∷ sizes) (suc group) =
          let more = sum_by-cons (λ n. n) size (take (suc group) sizes) in
          let here = sum_by-cons (λ n. n) size (take group sizes) in
          omega (arith, more, here, next sizes group)
