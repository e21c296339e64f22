-- The change of a touched key fits its table.
use Rattle.std.proofs.Common.{◌≡◌, List, [], ◌∷◌, length, Bool, true, false, Some, None, is_some, refl, arith}
use Rattle.std.proofs.lemmas.Bool.{true_from_ne_false}
use Rattle.std.specs.declared.cmp.Ordering.{Ordering}
use Rattle.std.specs.declared.cmp.Ordering.TheVariants.{Equal}
use Rattle.std.specs.Ordering.{is_eq}
use Rattle.std.specs.List.{list_any}
use Rattle.cap_value.specs.declared.value.Value.{Value}
use Rattle.cap_value.specs.Value.{is_null, value_eq_decides}
use Rattle.cap_row.specs.Fields.{Fields}
use Rattle.cap_row.specs.Key.{key_of, key_fields, fields_cmp, fields_cmp-Equal}
use Rattle.cap_changes.specs.Requirements.{requirements, satisfy}
use Rattle.cap_changes.specs.Fits.{change_fits}
use Rattle.cap_changes.specs.Column.{by_column}
use Rattle.cap_changes.specs.Change.{IsKeyedRow, full_record, old_field, new_field, change_of}
use Rattle.cap_changes.specs.declared.row_change.RowChange.TheVariants.{Update}
use Rattle.cap_changes.specs.declared.record_kind.RecordKind.TheVariants as record_kinds

pub other_order : (order : Ordering) → (order ≡ Equal → ⊥) → is_eq order ≡ false
other_order Equal other = absurd (other refl)
other_order order other = refl

module _ {A : Type 0} where
  no_null_key : (flags : List Bool) (row : Fields A) → is_some (key_of flags row) ≡ true → list_any is_null (key_fields flags row) ≡ false
  no_null_key flags row e = grind arith

  full_fits_from : (flags : List Bool) (row : Fields A) → length row ≡ length flags → list_any is_null (key_fields flags row) ≡ false →
      satisfy (requirements record_kinds.Full flags) (full_record row) ≡ true
  full_fits_from [] [] wide keyed = refl
  full_fits_from (key ∷ flags) (value ∷ row) wide keyed = grind (arith, full_fits_from flags row)
  full_fits_from flags row wide keyed = cc

  pub full_fits : (flags : List Bool) (row : Fields A) → IsKeyedRow flags row → satisfy (requirements record_kinds.Full flags) (full_record row) ≡ true
  full_fits flags row h = full_fits_from flags row h.wide (no_null_key flags row h.keyed)

  update_fits_from : (flags : List Bool) (image now : Fields A) → length image ≡ length flags → length now ≡ length flags → list_any is_null (key_fields flags image) ≡ false →
      change_fits flags (Update true (by_column old_field flags image now) (by_column new_field flags image now)) ≡ true
  update_fits_from (key ∷ flags) (old ∷ image) (new ∷ now) wide wide' keyed = grind (arith, update_fits_from flags image now)
  update_fits_from flags image now wide wide' keyed = grind arith

  pub update_fits : (flags : List Bool) (indirect : Bool) (image now : Fields A) → IsKeyedRow flags image → IsKeyedRow flags now →
      change_fits flags (Update indirect (by_column old_field flags image now) (by_column new_field flags image now)) ≡ true
  update_fits flags indirect image now h h' = update_fits_from flags image now h.wide h'.wide (no_null_key flags image h.keyed)

  -- equal rows are no change
  pub change_of-same : (flags : List Bool) (indirect : Bool) (image now : Fields A) → image ≡ now →
      change_of flags indirect (Some image) (Some now) ≡ None
  change_of-same flags indirect image now e = rw ((fields_cmp-Equal image now).1 e)

  -- unequal rows are an update
  pub change_of-other : (flags : List Bool) (indirect : Bool) (image now : Fields A) → (image ≡ now → ⊥) →
      change_of flags indirect (Some image) (Some now) ≡ Some (Update indirect (by_column old_field flags image now) (by_column new_field flags image now))
  change_of-other flags indirect image now other = rw (other_order (fields_cmp image now) (λ e. other ((fields_cmp-Equal image now).0 e)))

  pub same_first : {a b : Value A} {xs ys : Fields A} → (a ∷ xs) ≡ (b ∷ ys) → (a ≡ b) × (xs ≡ ys)
  same_first e = (cc, cc)

  -- rows of one key without a modified field are the same
  same_from_unmodified : (flags : List Bool) (image now : Fields A) → length image ≡ length flags → length now ≡ length flags →
      key_fields flags image ≡ key_fields flags now → list_any is_some (by_column new_field flags image now) ≡ false → image ≡ now
  same_from_unmodified [] [] [] wide wide' keys none = refl
  same_from_unmodified (key ∷ flags) (old ∷ image) (new ∷ now) wide wide' keys none = grind (arith, value_eq_decides old new, same_from_unmodified flags image now)
  same_from_unmodified flags image now wide wide' keys none = cc

  pub update_modifies : (flags : List Bool) (image now : Fields A) → IsKeyedRow flags image → IsKeyedRow flags now →
      key_of flags image ≡ key_of flags now → (image ≡ now → ⊥) → list_any is_some (by_column new_field flags image now) ≡ true
  update_modifies flags image now h h' keys other =
      true_from_ne_false (list_any is_some (by_column new_field flags image now))
      (λ none. other (same_from_unmodified flags image now h.wide h'.wide
      (let keyed = h.keyed in grind arith) none))
