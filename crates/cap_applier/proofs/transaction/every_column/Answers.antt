use Rattle.std.proofs.Common.{◌≡◌, ◌∙◌, ℕ, ◌+◌, List, [], ◌∷◌, ◌++◌, ap, sym, append_assoc}
use Rattle.std.specs.List.{enumerate_from}
use Rattle.cap_value.specs.declared.value.Value.{Value}
use Rattle.cap_row.specs.Fields.{Fields}
use Rattle.cap_row.proofs.EncodingLemmas.{passed}
use Rattle.cap_applier.proofs.transaction.every_column.Goals as goal

-- one more value is put behind its column
put_on : {A : Type 0} (columns new : List (ℕ × Value A)) (column : ℕ) (x y : Value A) (rest after row : Fields A) → new ≡ columns ++ (column, x) ∷ [] → x ≡ y → rest ≡ y ∷ after → columns ++ enumerate_from column rest ≡ enumerate_from 0 row
    → new ++ enumerate_from (column + 1) after ≡ enumerate_from 0 row
put_on {A} columns new column x y rest after row pushed same first so =
    ap (λ (l : List (ℕ × Value A)). l ++ enumerate_from (column + 1) after) pushed
    ∙ append_assoc columns ((column, x) ∷ []) (enumerate_from (column + 1) after)
    ∙ ap (λ (v : Value A). columns ++ (column, v) ∷ enumerate_from (column + 1) after) same
    ∙ ap (λ (r : Fields A). columns ++ enumerate_from column r) (sym first)
    ∙ so

pub loop-column-preserved : goal.loop-column-preserved
loop-column-preserved g c = record {
  put = put_on c.loop-column.columns.items c.push.new.self.items c.loop-column.column c.in_ok-own.field-0 _ c.loop-column.rest c.next_value.new.self c.args.row.now c.in_ok-push.ensures.items c.in_ok-own.ensures.value c.in-Some.ensures.value c.loop-column.invariant.put;
  left = passed c.args.row.now c.loop-column.column _ c.loop-column.rest c.next_value.new.self c.loop-column.invariant.left c.in-Some.ensures.value;
}
