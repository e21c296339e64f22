-- The rows and keys of a change whose fields satisfy their requirements, in a table whose columns fit.
use Rattle.std.proofs.Common.{◌≡◌, ℕ, zero, suc, ◌+◌, ◌<◌, ◌≤◌, Bool, true, false, Some, None, List, [], ◌∷◌, length, map, replicate, refl, ap, arith, nat_le, nat_eq, eq-eqb, lt-ltb, ne_eqb}
use Rattle.cap_changes.specs.Patch.{key_record, update_record}
use Rattle.cap_changes.specs.declared.record_kind.RecordKind.TheVariants as record_kinds
use Rattle.cap_apply.proofs.Common.{list_any, enumerate_from, length-replicate, Value, Null, is_null, Fields, is_key, key_fields, key_of, are_columns, columns_of, new_value, row_with, has_key, requirements, satisfy, RecordFields, assigned_from, key_values, new_row, set_fields, columns_fit}

fit_length : (flags schema : List Bool) → columns_fit flags schema ≡ true → length flags ≤ length schema
fit_length [] schema fit = omega arith
fit_length (flag ∷ flags) (own ∷ schema) fit = let rest = fit_length flags schema in grind (arith, rest)
fit_length flags schema fit = cc

module _ {A : Type 0} where
  -- the key fields of fields that satisfy the requirements of a change
  pub alone_keyed : (flags : List Bool) (fields : RecordFields A) → satisfy (requirements record_kinds.KeyAlone flags) fields ≡ true → satisfy (requirements record_kinds.Keyed flags) fields ≡ true
  alone_keyed (flag ∷ flags) (field ∷ fields) met = let rest = alone_keyed flags fields in grind (arith, rest)
  alone_keyed flags fields met = cc

  pub keyed_length : (flags : List Bool) (fields : RecordFields A) → satisfy (requirements record_kinds.Keyed flags) fields ≡ true → length fields ≡ length flags
  keyed_length (flag ∷ flags) (field ∷ fields) met = let rest = keyed_length flags fields in grind (arith, rest)
  keyed_length flags fields met = grind arith

  -- ---- keys

  pub no_key : (schema : List Bool) (row : Fields A) → has_key schema ≡ false → key_fields schema row ≡ []
  no_key (own ∷ schema) (value ∷ row) e = let rest = no_key schema row in grind (arith, rest)
  no_key schema row e = cc

  set_key : (flags schema : List Bool) (fields : RecordFields A) (row : Fields A) → columns_fit flags schema ≡ true → satisfy (requirements record_kinds.Keyed flags) fields ≡ true →
      length row ≡ length schema → key_fields schema (set_fields fields row) ≡ key_values flags fields
  set_key [] schema [] row fit met wide = let rest = no_key schema row in grind (arith, rest)
  set_key (flag ∷ flags) (own ∷ schema) (field ∷ fields) (value ∷ row) fit met wide = let rest = set_key flags schema fields row in grind (arith, rest)
  set_key flags schema fields row fit met wide = cc

  key_defined : (flags : List Bool) (fields : RecordFields A) → satisfy (requirements record_kinds.Keyed flags) fields ≡ true
      → (list_any is_null (key_values flags fields) ≡ false) × (has_key flags ≡ true → nat_le 1 (length (key_values flags fields)) ≡ true)
  key_defined (flag ∷ flags) (field ∷ fields) met = let rest = key_defined flags fields in grind (arith, rest)
  key_defined flags fields met = grind arith

  pub is_key-key_values : (flags : List Bool) (fields : RecordFields A) → has_key flags ≡ true → satisfy (requirements record_kinds.Keyed flags) fields ≡ true → is_key (key_values flags fields) ≡ true
  is_key-key_values flags fields key met = grind (arith, key_defined flags fields met)

  -- ---- rows

  pub length-set_fields : (fields : RecordFields A) (row : Fields A) → length (set_fields fields row) ≡ length row
  length-set_fields (field ∷ fields) (value ∷ row) = ap suc (length-set_fields fields row)
  length-set_fields fields row = refl

  -- a new row is one of NULLs with the fields set
  nulls_set : (width : ℕ) (fields : RecordFields A) → length fields ≤ width → new_row width fields ≡ set_fields fields (replicate width Null)
  nulls_set width [] few = grind arith
  nulls_set zero (field ∷ fields) few = absurd (omega arith)
  nulls_set (suc width) (field ∷ fields) few = let rest = nulls_set width fields in grind (arith, rest)

  -- ---- what an update sets

  pub set_all : (row before : Fields A) → length before ≡ length row → set_fields (map Some row) before ≡ row
  set_all [] [] wide = refl
  set_all (value ∷ row) (old ∷ before) wide = let rest = set_all row before in grind (arith, rest)
  set_all row before wide = cc

  pub update_key : (flags : List Bool) (key new : RecordFields A) → satisfy (requirements record_kinds.Keyed flags) (update_record flags key new) ≡ true →
      key_values flags (update_record flags key new) ≡ key_values flags key
  update_key (flag ∷ flags) (before ∷ key) (after ∷ new) met = let rest = update_key flags key new in grind (arith, rest)
  update_key flags key new met = cc

  -- a patch requests what it says
  pub update_same : (flags : List Bool) (new : RecordFields A) → satisfy (requirements record_kinds.Keyed flags) new ≡ true → update_record flags new new ≡ new
  update_same (flag ∷ flags) (field ∷ new) met = let rest = update_same flags new in grind (arith, rest)
  update_same flags new met = grind arith

  pub alone_same : (flags : List Bool) (key : RecordFields A) → satisfy (requirements record_kinds.KeyAlone flags) key ≡ true → key_record flags key ≡ key
  alone_same (flag ∷ flags) (field ∷ key) met = let rest = alone_same flags key in grind (arith, rest)
  alone_same flags key met = grind arith

  pub record_key : (flags : List Bool) (old : RecordFields A) → key_values flags (key_record flags old) ≡ key_values flags old
  record_key (flag ∷ flags) (field ∷ old) = let rest = record_key flags old in grind (arith, rest)
  record_key flags old = cc

  -- ---- assignments

  -- a column before the assigned ones keeps its value
  value_kept : (n : ℕ) (fields : RecordFields A) (column : ℕ) (old : Value A) → column < n → new_value (assigned_from n fields) column old ≡ old
  value_kept n [] column old l = refl
  value_kept n (field ∷ fields) column old l =
      grind (arith, value_kept (n + 1) fields column old (omega arith), ne_eqb n column (λ e. omega arith))

  -- columns behind an assigned one do not see it
  past_it : (n m : ℕ) (value : Value A) (rest : List (ℕ × Value A)) (row : Fields A) → n < m →
      map (λ field. new_value ((n, value) ∷ rest) field.0 field.1) (enumerate_from m row) ≡ map (λ field. new_value rest field.0 field.1) (enumerate_from m row)
  past_it n m value rest [] l = refl
  past_it n m value rest (old ∷ row) l =
      grind (arith, past_it n (m + 1) value rest row (omega arith), ne_eqb n m (λ e. omega arith))

  set_from : (n : ℕ) (fields : RecordFields A) (row : Fields A) →
      map (λ field. new_value (assigned_from n fields) field.0 field.1) (enumerate_from n row) ≡ set_fields fields row
  set_from n [] [] = refl
  set_from n [] (value ∷ row) = grind (arith, set_from (n + 1) [] row)
  set_from n (field ∷ fields) [] = refl
  set_from n (None ∷ fields) (old ∷ row) = grind (arith, value_kept (n + 1) fields n old (omega arith), set_from (n + 1) fields row)
  set_from n (Some value ∷ fields) (old ∷ row) =
      grind (arith, eq-eqb n n refl, past_it n (n + 1) value (assigned_from (n + 1) fields) row (omega arith), set_from (n + 1) fields row)

  pub row_with-assigned : (fields : RecordFields A) (row : Fields A) → row_with (assigned_from 0 fields) row ≡ set_fields fields row
  row_with-assigned fields row = set_from 0 fields row

  not_named : (n m : ℕ) (fields : RecordFields A) → n < m → list_any (nat_eq n) (columns_of (assigned_from m fields)) ≡ false
  not_named n m [] l = refl
  not_named n m (field ∷ fields) l =
      grind (arith, not_named n (m + 1) fields (omega arith), ne_eqb n m (λ e. omega arith))

  are_columns_from : (width n : ℕ) (fields : RecordFields A) → n + length fields ≤ width → are_columns width (columns_of (assigned_from n fields)) ≡ true
  are_columns_from width n [] l = refl
  are_columns_from width n (field ∷ fields) l =
      grind (arith, lt-ltb n width (omega arith), not_named n (n + 1) fields (omega arith), are_columns_from width (n + 1) fields (omega arith))

  pub are_columns-assigned : (width : ℕ) (fields : RecordFields A) → length fields ≤ width → are_columns width (columns_of (assigned_from 0 fields)) ≡ true
  are_columns-assigned width fields l = are_columns_from width 0 fields (omega arith)

  module _ (flags schema : List Bool) (fields : RecordFields A) (fit : columns_fit flags schema ≡ true) (key : has_key flags ≡ true) (met : satisfy (requirements record_kinds.Keyed flags) fields ≡ true) where
    pub few_fields : length fields ≤ length schema
    few_fields = omega (arith, keyed_length flags fields met, fit_length flags schema fit)

    pub key_of-set_fields : (row : Fields A) → length row ≡ length schema → key_of schema (set_fields fields row) ≡ Some (key_values flags fields)
    key_of-set_fields row wide = rw (set_key flags schema fields row fit met wide, is_key-key_values flags fields key met)

    pub key_of-new_row : key_of schema (new_row (length schema) fields) ≡ Some (key_values flags fields)
    key_of-new_row = rw (nulls_set (length schema) fields few_fields) (key_of-set_fields (replicate (length schema) Null) (length-replicate (length schema) Null))

    pub length-new_row : length (new_row (length schema) fields) ≡ length schema
    length-new_row = rw (nulls_set (length schema) fields few_fields, length-set_fields fields) (length-replicate (length schema) Null)
