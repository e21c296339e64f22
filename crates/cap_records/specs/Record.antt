-- Records that stand alone: the fields of a row, of a key or of new values, one after the other as a
-- changeset has them, up to the end of the bytes.
use Rattle.std.specs.Prelude.{ℕ, zero, suc, Bool, true, false, List, [], ◌∷◌, length, Option, Some, None}
use Rattle.std.specs.Prelude.{Result, Ok}
use Rattle.std.specs.List.{enumerate_from, flat_map}
use Rattle.std.specs.Option.{option_to_list}
use Rattle.std.specs.Global.{Global}
use Rattle.cap_value.specs.declared.value.Value.{Value}
use Rattle.cap_row.specs.Fields.{Fields}
use Rattle.cap_database.specs.Assigned.{Assigned}
use Rattle.cap_changes.specs.FieldRecord.{RecordFields}
use Rattle.cap_changes.specs.declared.field_requirement.FieldRequirement.{FieldRequirement}
use Rattle.cap_changes.specs.declared.field_requirement.FieldRequirement.TheVariants as required
use Rattle.cap_field.specs.declared.fault.BlobFault.{BlobFault}
use Rattle.cap_field.specs.Reading.{◌>>=◌}
use Rattle.cap_field.specs.Field.{value_bytes}
use Rattle.cap_changes.specs.FieldReading.{field_at}

-- a field with this requirement has a byte at least
abbrev pub has_byte : FieldRequirement → Bool
has_byte required.Omitted = false
has_byte requirement = true

-- Fields with this requirement up to the end. At most `most` of them, of which a list of bytes never has more
-- than bytes.
unfoldable pub fields_at : FieldRequirement → ℕ → ℕ → List ℕ → Result (RecordFields Global) BlobFault
fields_at requirement zero total bytes = Ok []
fields_at requirement (suc most) total [] = Ok []
fields_at requirement (suc most) total (byte ∷ bytes) = do
  field ← field_at total requirement (byte ∷ bytes)
  others ← fields_at requirement most total field.1
  Ok (field.0 ∷ others)

-- all of the bytes
abbrev pub record_in : FieldRequirement → List ℕ → Result (RecordFields Global) BlobFault
record_in requirement bytes = fields_at requirement (length bytes) (length bytes) bytes

-- the values of the fields that are defined
abbrev pub defined : RecordFields Global → Fields Global
defined fields = flat_map option_to_list fields

-- a column with its value, where it is defined
abbrev pub column_set : ℕ × Option (Value Global) → Assigned Global
column_set (column, None) = []
column_set (column, Some value) = (column, value) ∷ []

-- the columns that are defined, counted from 0, each with its value
abbrev pub columns_set : RecordFields Global → Assigned Global
columns_set fields = flat_map column_set (enumerate_from 0 fields)

-- a row: every field is defined
abbrev pub row_in : List ℕ → Result (Fields Global) BlobFault
row_in bytes = record_in required.Defined bytes >>= (λ fields. Ok (defined fields))

-- a key: every field is defined and not NULL
abbrev pub key_in : List ℕ → Result (Fields Global) BlobFault
key_in bytes = record_in required.Key bytes >>= (λ fields. Ok (defined fields))

-- new values: a field for each column from 0 on, undefined where the column stays
abbrev pub assigned_in : List ℕ → Result (Assigned Global) BlobFault
assigned_in bytes = record_in required.Any bytes >>= (λ fields. Ok (columns_set fields))

-- the record of a row or of a key
abbrev pub values_bytes : Fields Global → List ℕ
values_bytes values = flat_map value_bytes values
