-- Fields that are defined: a record of these alone is the values of a row.
use Rattle.std.proofs.Common.{arith, ◌≡◌, ℕ, List, [], ◌∷◌, ◌++◌, Bool, true, Option, Some, None, is_some, IsTrue, refl, sym, ap, ◌∙◌}
use Rattle.std.specs.List.{list_all}
use Rattle.cap_value.specs.Bytes.{bytes_eq}
use Rattle.cap_value.specs.declared.value.Value.{Value}
use Rattle.cap_field.specs.Field.{value_bytes, values_bytes}
use Rattle.cap_row.specs.Encoding as rows
use Rattle.cap_row.specs.Encoding.{AreValues, Encodes}
use Rattle.cap_row.specs.Fields.{Fields}
use Rattle.cap_row.proofs.EncodingLemmas.{encoded}
use Rattle.cap_changes.specs.Change.{full_record}
use Rattle.cap_changes.specs.Field.{field_bytes, record_bytes, key_bytes}
use Rattle.cap_changes.specs.FieldRecord.{RecordFields}
use Rattle.cap_changes.specs.Record.{stored_fields, AreFields, IsStored}

module _ {A : Type 0} where
  pub undefined : (field : Option (Value A)) (bytes : List ℕ) → bytes ≡ field_bytes field → bytes_eq bytes (0 ∷ []) ≡ true → field ≡ None
  undefined field bytes is same = grind arith

  -- fields that are all defined are those of values
  defined : (fields : RecordFields A) → list_all is_some fields ≡ true → AreFields fields
      → (values : Fields A) × (fields ≡ full_record values) × AreValues values × (record_bytes fields ≡ values_bytes values) × (key_bytes fields ≡ values_bytes values)
  defined [] some each = ([], refl, tt, refl, refl)
  defined (None ∷ fields) some each = cc
  defined (Some value ∷ fields) some each =
      let (values, full, are, record_is, key_is) = defined fields some each.1 in
      (value ∷ values, ap (λ (l : RecordFields A). Some value ∷ l) full, (each.0, are), ap (λ (b : List ℕ). value_bytes value ++ b) record_is, ap (λ (b : List ℕ). value_bytes value ++ b) key_is)

  -- its bytes are those of a row
  pub record IsWhole (bytes : List ℕ) (fields : RecordFields A) : Type 0 where
    pub encodes : Encodes {A = A} bytes (rows.fields_of bytes)
    pub full : fields ≡ full_record (rows.fields_of bytes)

  whole_of : (bytes : List ℕ) (fields : RecordFields A) (values : Fields A) → fields ≡ full_record values → AreValues values → bytes ≡ values_bytes values → IsWhole bytes fields
  whole_of bytes fields values full are spelled = let e = encoded bytes values are spelled in record { encodes = e.1; full = full ∙ ap full_record (sym e.0) }

  pub whole_view : (keys : Option (List Bool)) (bytes : List ℕ) (fields : RecordFields A) → IsStored A keys bytes → stored_fields keys bytes ≡ fields → IsTrue (list_all is_some fields) → IsWhole bytes fields
  whole_view None bytes fields is view some =
      let (values, full, are, record_is, key_is) = defined (stored_fields None bytes) (ap (list_all is_some) view ∙ some) is.each in whole_of bytes fields values (sym view ∙ full) are (is.spelled ∙ record_is)
  whole_view (Some flags) bytes fields is view some =
      let (values, full, are, record_is, key_is) = defined (stored_fields (Some flags) bytes) (ap (list_all is_some) view ∙ some) is.each in whole_of bytes fields values (sym view ∙ full) are (is.spelled ∙ key_is)
