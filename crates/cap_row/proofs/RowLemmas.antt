-- Columns that an update names, one more at a time, and what they do to a row.
use Rattle.std.proofs.Common.{◌≡◌, ◌∙◌, ℕ, zero, suc, ◌+◌, ◌<◌, ◌≤◌, Bool, true, false, not, ◌&&◌, ◌||◌, List, [], ◌∷◌, ◌++◌, length, get_or, set, take, drop, map, nat_eq, replicate, ap, sym, refl, arith}
use Rattle.std.proofs.Math.Bool.{and-true}
use Rattle.std.specs.List.{list_any, enumerate_from}
use Rattle.std.proofs.lemmas.Bool.Decides.{nat_tests}
use Rattle.std.proofs.lemmas.Grind.{common_steps}
use Rattle.std.proofs.lemmas.List.{drop_more, length-map}
use Rattle.std.proofs.lemmas.List.FromFn.{length-enumerate_from}
use Rattle.cap_value.specs.declared.value.Value.{Value}
use Rattle.cap_row.specs.Row.{are_columns, columns_of, new_value, row_with}
use Rattle.cap_row.specs.Fields.{Fields}
use Rattle.std.specs.Option.{unwrap_or}
use Rattle.std.proofs.Common.{Option, append_assoc}

-- no column is named at first
not_named : (n c : ℕ) → get_or (replicate n false) c false ≡ false
not_named zero c = refl
not_named (suc n) zero = refl
not_named (suc n) (suc c) = not_named n c

none_named : (n : ℕ) (columns : List ℕ) → list_any (λ k. get_or (replicate n false) k false) columns ≡ false
none_named n [] = refl
none_named n (c ∷ columns) = rw (not_named n c) (none_named n columns)

-- one more column is named
one_named : (named : List Bool) (c : ℕ) (columns : List ℕ) → c < length named → list_any (λ k. get_or (set named c true) k false) columns ≡ (list_any (nat_eq c) columns || list_any (λ k. get_or named k false) columns)
one_named named c [] lt = refl
one_named named c (k ∷ columns) lt = grind (arith, common_steps, one_named named c columns)

pub row_with_length : {A : Type 0} (changes : List (ℕ × Value A)) (row : List (Value A)) → length (row_with changes row) ≡ length row
row_with_length changes row = length-map _ _ ∙ length-enumerate_from 0 row

module _ {A : Type 0} where
  -- the rows from a column on, with the fields set
  abbrev pub row_from : List (ℕ × Value A) → ℕ → Fields A → Fields A
  row_from changes column row = map (λ (field : ℕ × Value A). new_value changes field.0 field.1) (enumerate_from column row)

  -- one more column is put
  pub put_more : (out rest : Fields A) (changes : List (ℕ × Value A)) (i : ℕ) (found : Option (Value A)) → ((old : Value A) → new_value changes i old ≡ unwrap_or found old)
      → (out ++ map (unwrap_or found) (take 1 rest)) ++ row_from changes (i + 1) (drop 1 rest) ≡ out ++ row_from changes i rest
  put_more out [] changes i found is = grind (arith, append_assoc)
  put_more out (value ∷ others) changes i found is = grind (arith, append_assoc, is value)

module _ {A : Type 0} (w : ℕ) (changes : List (ℕ × Value A)) where
  -- the columns from a place on are in the table, none is named twice, and none was named before
  abbrev pub LeftColumns : List Bool → ℕ → Bool
  LeftColumns named i = are_columns w (columns_of (drop i changes)) && not (list_any (λ k. get_or named k false) (columns_of (drop i changes)))

  pub all_left : LeftColumns (replicate 2000 false) 0 ≡ are_columns w (columns_of changes)
  all_left = rw (none_named 2000 (columns_of changes), and-true) refl

  pub accepted : (named : List Bool) (i : ℕ) (change : ℕ × Value A) → i < length changes → change ≡ get_or changes i change → w ≤ length named → change.0 < w → get_or named change.0 false ≡ false → LeftColumns named i ≡ LeftColumns (set named change.0 true) (i + 1)
  accepted named i change lt is long inside once = rw (drop_more changes i change lt ∙ ap (λ c. c ∷ drop (i + 1) changes) (sym is), one_named named change.0 (columns_of (drop (i + 1) changes)) (omega arith)) (grind (arith, nat_tests))
