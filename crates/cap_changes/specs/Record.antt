-- A record as the bytes of its fields, one after another.
use Rattle.std.specs.Prelude.{◌≡◌, ℕ, zero, suc, Bool, List, [], ◌∷◌, length, Option, Some, None, IfSome, IsTrue}
use Rattle.std.specs.Prelude.{Result, Ok, Err}
use Rattle.std.specs.List.{AllByRecursion}
use Rattle.cap_value.specs.declared.value.Value.{Value}
use Rattle.cap_value.specs.Value.{IsValue}
use Rattle.cap_field.specs.declared.fault.BlobFault.{BlobFault}
use Rattle.cap_changes.specs.Field.{field_bytes, record_bytes, key_bytes}
use Rattle.cap_changes.specs.FieldReading.{field_at}
use Rattle.cap_changes.specs.FieldRecord.{RecordFields}
use Rattle.cap_changes.specs.RecordReading.{record_at, value_in}
use Rattle.cap_changes.specs.Requirements.{requirements, satisfy}
use Rattle.cap_changes.specs.declared.field_requirement.FieldRequirement.TheVariants.{Any}
use Rattle.cap_changes.specs.declared.record_kind.RecordKind.TheVariants.{KeyAlone}

module _ {A : Type 0} where
  abbrev pub and_behind : (List ℕ → RecordFields A) → Result (Option (Value A) × List ℕ) BlobFault → RecordFields A
  and_behind others (Ok field) = field.0 ∷ others field.1
  and_behind others (Err fault) = []

  -- the fields that bytes spell, at most so many of them
  unfoldable pub fields_from : ℕ → List ℕ → RecordFields A
  fields_from zero bytes = []
  fields_from (suc most) bytes = and_behind (fields_from most) (field_at 0 Any bytes)

  -- the fields that bytes spell
  unfoldable pub fields_of : List ℕ → RecordFields A
  fields_of bytes = fields_from (length bytes) bytes

  -- the key fields that bytes spell, and undefined ones for the other columns
  unfoldable pub keys_of : List Bool → List ℕ → RecordFields A
  keys_of flags bytes = value_in [] (record_at 0 (requirements KeyAlone flags) bytes)

  -- each that is defined is within the limits of its storage class
  abbrev pub AreFields : RecordFields A → Type 0
  AreFields fields = AllByRecursion (λ field. IfSome field IsValue) fields

  -- the bytes are exactly those of these fields
  pub record IsRecord (bytes : List ℕ) (fields : RecordFields A) : Type 0 where
    pub each : AreFields fields
    pub spelled : bytes ≡ record_bytes fields

  -- the bytes are exactly those of the key fields, and no other field is defined
  pub record IsKeyRecord (flags : List Bool) (bytes : List ℕ) (fields : RecordFields A) : Type 0 where
    pub each : AreFields fields
    pub fits : IsTrue (satisfy (requirements KeyAlone flags) fields)
    pub spelled : bytes ≡ key_bytes fields

  -- the fields of a record, of the key alone where there are key flags
  abbrev pub stored_fields : Option (List Bool) → List ℕ → RecordFields A
  stored_fields None bytes = fields_of bytes
  stored_fields (Some flags) bytes = keys_of flags bytes

  -- the first field, its bytes, and the others
  abbrev pub IsFirstField : RecordFields A → Option (Value A) → List ℕ → RecordFields A → Type 0
  IsFirstField fields field bytes others =
      (fields ≡ field ∷ others) × (bytes ≡ field_bytes field) × IfSome field IsValue

  -- the first field, as its bytes, and the others
  abbrev pub BeginsWithField : RecordFields A → List ℕ → RecordFields A → Type 0
  BeginsWithField fields bytes others =
      (field : Option (Value A)) × (fields ≡ field ∷ others) × (bytes ≡ field_bytes field) × IfSome field IsValue

module _ (A : Type 0) where
  -- the bytes are those of a record, of the key alone where there are key flags
  abbrev pub IsStored : Option (List Bool) → List ℕ → Type 0
  IsStored None bytes = IsRecord {A = A} bytes (fields_of bytes)
  IsStored (Some flags) bytes = IsKeyRecord {A = A} flags bytes (keys_of flags bytes)
