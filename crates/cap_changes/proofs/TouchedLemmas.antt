-- The records of a touched key, field by field.
use Rattle.std.proofs.Common.{arith, ◌≡◌, ℕ, List, [], ◌∷◌, ◌++◌, Bool, true, false, not, ◌&&◌, ◌||◌, cond, Option, refl, ap}
use Rattle.std.proofs.lemmas.Bool.Decides.{same_from_decides}
use Rattle.std.proofs.lemmas.Slice.Eq.{bytes_eq-Decides}
use Rattle.cap_value.specs.Bytes.{bytes_eq}
use Rattle.cap_value.specs.declared.value.Value.{Value}
use Rattle.cap_value.specs.Value.{IsValue, value_eq, value_eq_decides}
use Rattle.cap_field.specs.Field.{value_bytes, values_bytes}
use Rattle.cap_field.proofs.FieldAgain.{value_again}
use Rattle.cap_row.specs.Fields.{Fields}
use Rattle.cap_changes.specs.Change.{full_record, old_field, new_field}
use Rattle.cap_changes.specs.Field.{record_bytes, field_bytes}

module _ {A : Type 0} where
  -- the bytes of a row are those of the record in which every field is defined
  pub row_is_record : (row : Fields A) → values_bytes row ≡ record_bytes (full_record row)
  row_is_record [] = refl
  row_is_record (value ∷ row) = ap (λ (r : List ℕ). value_bytes value ++ r) (row_is_record row)

  pub eq_by_bytes : (a b : Value A) → IsValue a → IsValue b → value_eq a b ≡ bytes_eq (value_bytes a) (value_bytes b)
  eq_by_bytes a b p q =
      let bytes = bytes_eq-Decides (value_bytes a) (value_bytes b) in
      same_from_decides (value_eq a b) (bytes_eq (value_bytes a) (value_bytes b)) (value_eq_decides a b) (λ t. let same = bytes.0 t in grind (arith, value_again 0 a [], value_again 0 b []), λ e. bytes.1 (ap value_bytes e))

  -- the field of a column in the old record, or in the new one
  abbrev pub side_field : Bool → Bool → Value A → Value A → Option (Value A)
  side_field true key image now = old_field key image now
  side_field false key image now = new_field key image now

  -- by the bytes of its fields
  pub side_by_bytes : (old key : Bool) (a b : Value A) → IsValue a → IsValue b
      → cond ((old && key) || (not key && not (bytes_eq (value_bytes a) (value_bytes b)))) (cond old (value_bytes a) (value_bytes b)) (0 ∷ []) ≡ field_bytes (side_field old key a b)
  side_by_bytes old key a b p q = grind (arith, eq_by_bytes a b p q)
