-- Primary keys: which rows have one, and the order of keys.
use Rattle.std.specs.Prelude.{◌≡◌, ◌↔◌, List, [], ◌∷◌, Bool, Option, Some, None, length, nat_le, ◌&&◌, not}
use Rattle.std.specs.Prelude.{if◌then◌else◌}
use Rattle.std.specs.List.{list_any}
use Rattle.std.proofs.Common.{subst}
use Rattle.std.specs.declared.cmp.Ordering.{Ordering}
use Rattle.std.specs.declared.cmp.Ordering.TheVariants.{Equal}
use Rattle.std.specs.Ordering.{is_eq}
use Rattle.std.specs.FinMap.{slice_cmp-IsAntisymmetric}
use Rattle.std.specs.Bool.{Decides}
use Rattle.std.specs.Cmp.{IsTotalOrder, Equal-is, tied_itself}
use Rattle.std.specs.Cmp.Lexicographic.{slice_cmp, lists_total}
use Rattle.cap_value.specs.Value.{value_cmp, value_cmp_total, value_cmp-IsAntisymmetric, is_null}
use Rattle.cap_row.specs.Fields.{Fields}

module _ {A : Type 0} where
  -- one value or more, none of them NULL
  abbrev pub is_key : Fields A → Bool
  is_key fields = nat_le 1 (length fields) && not (list_any is_null fields)

  abbrev pub key_from : Fields A → Option (Fields A)
  key_from fields = if is_key fields then Some fields else None

  -- the values of the key columns, in column order
  abbrev pub key_fields : List Bool → Fields A → Fields A
  key_fields [] row = []
  key_fields (flag ∷ flags) [] = []
  key_fields (flag ∷ flags) (field ∷ row) =
      if flag then field ∷ key_fields flags row else key_fields flags row

  -- the primary key of a row, none without key columns or with a NULL among them
  abbrev pub key_of : List Bool → Fields A → Option (Fields A)
  key_of flags row = key_from (key_fields flags row)

  -- value by value, and a key before what extends it
  abbrev pub fields_cmp : Fields A → Fields A → Ordering
  fields_cmp = slice_cmp value_cmp

  -- two lists of values that are equal in the order
  abbrev pub fields_eq : Fields A → Fields A → Bool
  fields_eq a b = is_eq (fields_cmp a b)

  pub fields_cmp_total : IsTotalOrder fields_cmp
  fields_cmp_total = lists_total value_cmp_total

  -- different keys are unequal in the order
  pub fields_cmp-Equal : (a b : Fields A) → (fields_cmp a b ≡ Equal) ↔ (a ≡ b)
  fields_cmp-Equal a b = (
    slice_cmp-IsAntisymmetric value_cmp-IsAntisymmetric a b,
    λ e. subst (λ c. fields_cmp a c ≡ Equal) e
        (tied_itself fields_cmp_total a),
  )

  pub fields_eq_decides : (a b : Fields A) → Decides (fields_eq a b) (a ≡ b)
  fields_eq_decides a b = (
    λ e. (fields_cmp-Equal a b).0 ((Equal-is (fields_cmp a b)).0 e),
    λ e. (Equal-is (fields_cmp a b)).1
        ((fields_cmp-Equal a b).1 e),
  )
