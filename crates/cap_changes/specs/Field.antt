-- The fields of a record as bytes.
use Rattle.std.specs.Prelude.{ℕ, List, [], ◌∷◌, Option, Some, None}
use Rattle.std.specs.List.{flat_map}
use Rattle.cap_value.specs.declared.value.Value.{Value}
use Rattle.cap_changes.specs.FieldRecord.{RecordFields}
use Rattle.cap_field.specs.Field.{value_bytes}

module _ {A : Type 0} where
  -- a field that is not defined is a zero byte
  abbrev pub field_bytes : Option (Value A) → List ℕ
  field_bytes None = 0 ∷ []
  field_bytes (Some value) = value_bytes value

  abbrev pub record_bytes : RecordFields A → List ℕ
  record_bytes fields = flat_map field_bytes fields

  -- the fields that are defined, without a byte for the others
  abbrev pub defined_bytes : Option (Value A) → List ℕ
  defined_bytes None = []
  defined_bytes (Some value) = value_bytes value

  abbrev pub key_bytes : RecordFields A → List ℕ
  key_bytes fields = flat_map defined_bytes fields
