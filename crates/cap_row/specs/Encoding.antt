-- A row as the bytes of its fields, one after another.
use Rattle.std.specs.Prelude.{◌≡◌, ℕ, zero, suc, List, [], ◌∷◌, length, Result, Ok, Err}
use Rattle.std.specs.List.{AllByRecursion}
use Rattle.cap_value.specs.declared.value.Value.{Value}
use Rattle.cap_value.specs.Value.{IsValue}
use Rattle.cap_field.specs.declared.fault.BlobFault.{BlobFault}
use Rattle.cap_field.specs.Field.{value_bytes, values_bytes}
use Rattle.cap_field.specs.FieldReading.{value_at}
use Rattle.cap_row.specs.Fields.{Fields}

module _ {A : Type 0} where
  abbrev pub and_behind : (List ℕ → Fields A) → Result (Value A × List ℕ) BlobFault → Fields A
  and_behind others (Ok value) = value.0 ∷ others value.1
  and_behind others (Err fault) = []

  -- the values that bytes spell, at most so many of them
  unfoldable pub fields_from : ℕ → List ℕ → Fields A
  fields_from zero bytes = []
  fields_from (suc most) bytes = and_behind (fields_from most) (value_at 0 bytes)

  -- the values that bytes spell
  unfoldable pub fields_of : List ℕ → Fields A
  fields_of bytes = fields_from (length bytes) bytes

  -- each is within the limits of its storage class
  abbrev pub AreValues : Fields A → Type 0
  AreValues fields = AllByRecursion IsValue fields

  -- the bytes are exactly those of these values
  pub record Encodes (bytes : List ℕ) (fields : Fields A) : Type 0 where
    pub each : AreValues fields
    pub spelled : bytes ≡ values_bytes fields

  -- the bytes of a value
  abbrev pub IsFieldOf : List ℕ → Value A → Type 0
  IsFieldOf field value = (field ≡ value_bytes value) × IsValue value

  -- the first value, as its bytes, and the others
  abbrev pub BeginsWith : Fields A → List ℕ → Fields A → Type 0
  BeginsWith fields field others = (value : Value A) × (fields ≡ value ∷ others) × IsFieldOf field value
