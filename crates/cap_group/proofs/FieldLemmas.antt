-- Two records of one row, field by field, by the bytes of their fields.
use Rattle.std.proofs.Common.{◌≡◌, ℕ, ◌+◌, ◌<◌, List, [], ◌∷◌, ◌++◌, Bool, true, false, not, ◌&&◌, ◌||◌, cond, length, drop, get_or, Option, Some, IfSome, ◌⊎◌, inl, inr, refl, sym, append_assoc, append-nil, arith}
use Rattle.std.proofs.Math.Bool.{or_assoc, or-false}
use Rattle.std.proofs.lemmas.List.{drop_more}
use Rattle.cap_value.specs.Bytes.{bytes_eq}
use Rattle.cap_value.specs.declared.value.Value.{Value}
use Rattle.cap_value.specs.Value.{IsValue}
use Rattle.cap_changes.specs.ChangeBytes.{flag_byte}
use Rattle.cap_changes.specs.Column.{by_column}
use Rattle.cap_changes.specs.Field.{record_bytes, field_bytes}
use Rattle.cap_changes.specs.FieldRecord.{RecordFields}
use Rattle.cap_changes.specs.Record.{BeginsWithField}
use Rattle.cap_changes.proofs.PutLemmas.{goes_on}
use Rattle.cap_changes.proofs.TouchedLemmas.{eq_by_bytes}
use Rattle.cap_group.specs.ChangeKey.{key_values}
use Rattle.cap_group.specs.Put.{IsPut}
use Rattle.cap_group.specs.Record as together

module _ {A : Type 0} where
  -- a column outside the key has no value of it
  pub outside_key : (keys : List Bool) (fields : RecordFields A) → key_values (keys ++ false ∷ []) fields ≡ key_values keys fields
  outside_key [] [] = refl
  outside_key (key ∷ keys) (field ∷ fields) = grind (arith, outside_key keys fields)
  outside_key keys fields = grind arith

  -- fields that are the same have the same bytes, and no others
  pub field_eq_bytes : (b a : (Option (Value A))) → IfSome b IsValue → IfSome a IsValue → bytes_eq (field_bytes b) (field_bytes a) ≡ together.field_eq b a
  field_eq_bytes (Some b) (Some a) p q = sym (eq_by_bytes b a p q)
  field_eq_bytes b a p q = grind arith

  pub over_none : (below : RecordFields A) → together.record_over below [] ≡ []
  over_none [] = refl
  over_none (f ∷ fs) = refl

  pub over_self : (fields : RecordFields A) → together.record_over fields fields ≡ fields
  over_self [] = refl
  over_self (field ∷ fields) = grind (arith, over_self fields)

  -- the field of a column, in the old record or in the new one
  piece_is : (old key : Bool) (b a : Option (Value A)) → field_bytes (together.field_of old key b a)
      ≡ cond ((old && key) || together.is_modified key b a) (cond old (field_bytes b) (field_bytes a)) (0 ∷ [])
  piece_is old key b a = grind arith

  module _ (old : Bool) (flags : List Bool) (i : ℕ) (before befores after afters : RecordFields A) (was is : List ℕ) (modified : Bool) (within : i < length flags)
      (begins : BeginsWithField before was befores) (begins' : BeginsWithField after is afters) (test : modified ≡ (not (get_or flags i false) && not (bytes_eq was is))) where
    modified_here : modified ≡ together.is_modified (get_or flags i false) begins.0 begins'.0
    modified_here = rw (begins.2, begins'.2, field_eq_bytes begins.0 begins'.0 begins.3 begins'.3) at test

    -- the field of a column is put, and it is seen whether it differs
    pub column_put : (out out' all : List ℕ) (some whole : Bool) → out' ≡ out ++ cond ((old && get_or flags i false) || modified) (cond old was is) (0 ∷ []) →
        out ++ record_bytes (by_column (together.field_of old) (drop i flags) before after) ≡ all → (some || together.differ (drop i flags) before after) ≡ whole →
        (out' ++ record_bytes (by_column (together.field_of old) (drop (i + 1) flags) befores afters) ≡ all) × (((some || modified) || together.differ (drop (i + 1) flags) befores afters) ≡ whole)
    column_put out out' all some whole put so_far differ_so_far = (
      goes_on (together.field_of old) flags i before after befores afters begins.0 begins'.0 out out' all within so_far begins.1 begins'.1
          (rw (modified_here, begins.2, begins'.2, ← piece_is old (get_or flags i false) begins.0 begins'.0) at put),
      rw (or_assoc some modified _, modified_here) (rw (drop_more flags i false within, begins.1, begins'.1) at differ_so_far),
    )

  no_column : {Y : Type 0} (f : Bool → Option (Value A) → Option (Value A) → Y) (flags : List Bool) (before after : RecordFields A) → (before ≡ []) ⊎ (after ≡ []) → by_column f flags before after ≡ []
  no_column f (key ∷ flags) (b ∷ before) (a ∷ after) (inl none) = cc
  no_column f (key ∷ flags) (b ∷ before) (a ∷ after) (inr none) = cc
  no_column f flags before after ends = grind arith

  -- one of the records ends
  pub columns_end : (old : Bool) (flags : List Bool) (before after : RecordFields A) (out all : List ℕ) (some whole : Bool) → (before ≡ []) ⊎ (after ≡ []) →
      out ++ record_bytes (by_column (together.field_of old) flags before after) ≡ all → (some || together.differ flags before after) ≡ whole → (out ≡ all) × (some ≡ whole)
  columns_end old flags before after out all some whole ends put differs =
      (rw (no_column (together.field_of old) flags before after ends, append-nil) at put, rw (no_column together.is_modified flags before after ends, or-false) at differs)

  -- the update is put, where a column differs
  pub update_put : (flags : List Bool) (indirect : Bool) (before after : RecordFields A) (out mid next new : List ℕ) → together.differ flags before after ≡ true → mid ≡ out ++ 0x17 ∷ flag_byte indirect ∷ [] →
      next ≡ mid ++ record_bytes (by_column together.old_field flags before after) → new ≡ next ++ record_bytes (by_column together.new_field flags before after) → IsPut true out new (together.update_between flags indirect before after)
  update_put flags indirect before after out mid next new differs head old_put new_put =
      rw differs (rw (new_put, old_put, head) (simp (append_assoc, append-nil)), refl)
