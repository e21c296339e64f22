-- Fields that are gone over one after another, beside the columns.
use Rattle.std.proofs.Common.{◌≡◌, ℕ, ◌+◌, ◌<◌, Bool, true, false, Option, Some, None, is_some, IfSome, List, [], ◌∷◌, ◌++◌, length, map, drop, take, get_or, refl, sym, ap, ◌∙◌, append-nil, append_assoc, arith, if◌then◌else◌, unwrap_or}
use Rattle.cap_field.specs.Field.{value_bytes}
use Rattle.cap_row.specs.Encoding.{fields_of, BeginsWith, Encodes}
use Rattle.cap_row.proofs.EncodingLemmas.{encoded}
use Rattle.cap_changes.specs.Field.{field_bytes}
use Rattle.cap_changes.specs.Record.{BeginsWithField}
use Rattle.cap_changes.specs.declared.record_kind.RecordKind.TheVariants.{Full}
use Rattle.cap_changes.proofs.WholeLemmas.{undefined}
use Rattle.cap_apply.proofs.Common.{list_all, bytes_eq, IsValue, Value, Null, Fields, full_record, RecordFields, update_record, requirements, satisfy, flags-cons, has_old_values, key_values, set_fields}

module _ {A : Type 0} where
  -- ---- where no fields or no values are left

  pub no_fields : (flags : List Bool) → key_values {A = A} flags [] ≡ []
  no_fields [] = refl
  no_fields (flag ∷ flags) = refl

  pub no_kept : (flags : List Bool) (new : RecordFields A) → update_record flags [] new ≡ []
  no_kept [] new = refl
  no_kept (flag ∷ flags) new = refl

  pub no_set : (flags : List Bool) (key : RecordFields A) → update_record flags key [] ≡ []
  no_set (flag ∷ flags) (field ∷ key) = refl
  no_set flags key = refl

  set_none : (fields : RecordFields A) → set_fields fields [] ≡ []
  set_none [] = refl
  set_none (field ∷ fields) = refl

  pub no_old : (flags : List Bool) (row : Fields A) → has_old_values flags [] row ≡ true
  no_old [] row = refl
  no_old (flag ∷ flags) row = refl

  pub no_row : (flags : List Bool) (old : RecordFields A) → has_old_values flags old [] ≡ true
  no_row (flag ∷ flags) (field ∷ old) = refl
  no_row flags old = refl

  -- ---- fields by their bytes

  own : (field : List ℕ) (value : Value A) → field ≡ field_bytes (Some value) → IsValue value → (fields_of field ≡ value ∷ []) × Encodes {A = A} field (fields_of field)
  own field value is fits = encoded field (value ∷ []) (fits, tt) (is ∙ sym (append-nil (value_bytes value)))

  -- the bytes of a value are those of a row
  pub field_encodes : (field : List ℕ) → ((given : Option (Value A)) × (field ≡ field_bytes given) × IfSome given IsValue) → bytes_eq field (0 ∷ []) ≡ false → Encodes {A = A} field (fields_of field)
  field_encodes field (None, is, fits) some = absurd (grind arith)
  field_encodes field (Some value, is, fits) some = (own field value is fits).1

  pub next_kept : (field : List ℕ) (made made' row : Fields A) → bytes_eq field (0 ∷ []) ≡ true → made' ≡ made ++ take 1 row →
      (given : Option (Value A)) → field ≡ field_bytes given → IfSome given IsValue → made' ≡ made ++ map (unwrap_or given) (take 1 row)
  next_kept field made made' row same put given is fits = let none = undefined given field is same in grind (arith, none)

  pub next_set : (field : List ℕ) (made made' row others : Fields A) (bytes : List ℕ) → bytes_eq field (0 ∷ []) ≡ false → BeginsWith row bytes others → made' ≡ made ++ fields_of field →
      (given : Option (Value A)) → field ≡ field_bytes given → IfSome given IsValue → made' ≡ made ++ map (unwrap_or given) (take 1 row)
  next_set field made made' row others bytes some begins put None is fits = absurd (grind arith)
  next_set field made made' row others bytes some (old, first, _) put (Some new) is fits = let one = (own field new is fits).0 in grind (arith, one)

  -- the field of a column that is set
  pub bytes_chosen : (flag : Bool) (kept set chosen : List ℕ) (key keys new news : RecordFields A) → BeginsWithField key kept keys → BeginsWithField new set news → chosen ≡ (if flag then kept else set) →
      (given : Option (Value A)) × (chosen ≡ field_bytes given) × IfSome given IsValue
  bytes_chosen true kept set chosen key keys new news (k, _, spelled, fits) begins is = (k, is ∙ spelled, fits)
  bytes_chosen false kept set chosen key keys new news begins (n, _, spelled, fits) is = (n, is ∙ spelled, fits)

  -- one more value
  pub bytes_put : (flags : List Bool) (i : ℕ) (key keys new news : RecordFields A) (kept set chosen : List ℕ) (row rest made made' all : Fields A) → i < length flags → BeginsWithField key kept keys → BeginsWithField new set news
      → chosen ≡ (if get_or flags i false then kept else set)
      → ((given : Option (Value A)) → chosen ≡ field_bytes given → IfSome given IsValue → made' ≡ made ++ map (unwrap_or given) (take 1 row)) → rest ≡ drop 1 row
      → made ++ set_fields (update_record (drop i flags) key new) row ≡ all → made' ++ set_fields (update_record (drop (i + 1) flags) keys news) rest ≡ all
  bytes_put flags i key keys new news kept set chosen row rest made made' all lt (k, key_is, k_spelled, k_fits) (n, new_is, n_spelled, n_fits) is put passed so_far =
      let placed = put (if get_or flags i false then k else n) in
      let cons = flags-cons flags i lt in
      grind (arith, placed, cons, append_assoc, append-nil, set_none)

  -- ---- the row of an insert

  pub full_defined : (flags : List Bool) (fields : RecordFields A) → satisfy (requirements Full flags) fields ≡ true → list_all is_some fields ≡ true
  full_defined (flag ∷ flags) (field ∷ fields) met = let rest = full_defined flags fields in grind (arith, rest)
  full_defined flags fields met = grind arith

  pub full_values : (values : Fields A) → map (λ field. unwrap_or field Null) (full_record values) ≡ values
  full_values [] = refl
  full_values (value ∷ values) = ap (λ (l : Fields A). value ∷ l) (full_values values)

-- where nothing is left to go over, and what the columns of a loop have in front
pub ruleset no_more_fields = (no_fields, append-nil)

pub ruleset old_values = (no_old, no_row, flags-cons)
