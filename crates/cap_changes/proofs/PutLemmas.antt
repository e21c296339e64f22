-- Bytes that are put one piece after another.
use Rattle.std.proofs.Common.{◌≡◌, ℕ, ◌+◌, ◌<◌, Bool, false, List, [], ◌∷◌, ◌++◌, length, drop, get_or, Option, refl, sym, ap, ◌∙◌, append-nil, append_assoc}
use Rattle.std.specs.List.{zip}
use Rattle.std.proofs.lemmas.List.{drop_more}
use Rattle.cap_value.specs.declared.value.Value.{Value}
use Rattle.cap_changes.specs.Column.{by_column}
use Rattle.cap_changes.specs.Field.{field_bytes, record_bytes}

pub put_on : {X : Type 0} (out out' piece rest whole all : List X) → out' ≡ out ++ piece → whole ≡ piece ++ rest → out ++ whole ≡ all → out' ++ rest ≡ all
put_on {X} out out' piece rest whole all put parts so_far =
    ap (λ (b : List X). b ++ rest) put ∙ append_assoc out piece rest ∙ sym (ap (λ (b : List X). out ++ b) parts) ∙ so_far

pub put_all : {X : Type 0} (out whole all : List X) → whole ≡ [] → out ++ whole ≡ all → out ≡ all
put_all {X} out whole all none so_far = sym (append-nil out) ∙ sym (ap (λ (l : List X). out ++ l) none) ∙ so_far

pub no_pairs : {X Y : Type 0} (xs : List X) → zip {X = Y} xs [] ≡ []
no_pairs [] = refl
no_pairs (x ∷ xs) = refl

-- ---- a record made of two rows or records, column by column

module _ {A X : Type 0} (pick : Bool → X → X → Option (Value A)) where
  -- the field of one more column
  pub goes_on : (flags : List Bool) (i : ℕ) (first second first' second' : List X) (a b : X) (out new all : List ℕ) → i < length flags
      → out ++ record_bytes (by_column pick (drop i flags) first second) ≡ all → first ≡ a ∷ first' → second ≡ b ∷ second'
      → new ≡ out ++ field_bytes (pick (get_or flags i false) a b) → new ++ record_bytes (by_column pick (drop (i + 1) flags) first' second') ≡ all
  goes_on flags i first second first' second' a b out new all lt so ia ib is =
      rw (is, append_assoc out (field_bytes (pick (get_or flags i false) a b)) (record_bytes (by_column pick (drop (i + 1) flags) first' second'))) (rw (ia, ib, drop_more flags i false lt) at so)
