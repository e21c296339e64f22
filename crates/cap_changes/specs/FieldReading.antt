-- Reading the fields of a record.
use Rattle.std.specs.Prelude.{ℕ, Bool, true, not, List, Option, Some, None, Result, Ok}
use Rattle.std.specs.Prelude.{nat_lt, ◌==◌, ◌&&◌, if◌then◌else◌}
use Rattle.std.specs.Option.{option_map}
use Rattle.cap_value.specs.declared.value.Value.{Value}
use Rattle.cap_value.specs.declared.value.Value.TheVariants.{Null, Int, Text, Blob}
use Rattle.cap_changes.specs.declared.field_requirement.FieldRequirement.{FieldRequirement}
use Rattle.cap_changes.specs.declared.field_requirement.FieldRequirement.TheVariants as required
use Rattle.cap_field.specs.declared.fault.BlobFault.{BlobFault}
use Rattle.cap_field.specs.declared.fault.FaultKind.TheVariants.{BadField, Real, BadRecord}
use Rattle.cap_field.specs.Reading.{◌>>=◌, fault, place, byte_at}
use Rattle.cap_field.specs.declared.value_ref.ValueRef.{ValueRef}
use Rattle.cap_field.specs.FieldReading.{number_at, sized_at, text_at, value_of}

-- the type bytes that satisfy a requirement: 0 is not defined, and 5 is NULL
abbrev pub allows : FieldRequirement → ℕ → Bool
allows required.Key kind = not (kind == 0) && not (kind == 5)
allows required.Defined kind = not (kind == 0)
allows required.Any kind = true
allows required.Undefined kind = kind == 0
allows required.Omitted kind = kind == 0

module _ {A : Type 0} where
  -- the field of a reference
  abbrev pub field_of : Option ValueRef → Option (Value A)
  field_of field = option_map value_of field

  -- the value behind a type byte from 0 to 5 other than 2
  unfoldable pub content_at : ℕ → ℕ → ℕ → List ℕ → Result (Option (Value A) × List ℕ) BlobFault
  content_at total at kind bytes =
      if kind == 0 then Ok (None, bytes)
      else (if kind == 1 then number_at total bytes >>= (λ n. Ok (Some (Int n.0), n.1))
      else (if kind == 3 then text_at total at bytes >>= (λ text. Ok (Some (Text text.0), text.1))
      else (if kind == 4 then sized_at total at bytes >>= (λ blob. Ok (Some (Blob blob.0), blob.1))
      else Ok (Some Null, bytes))))

  -- a type byte that is allowed, and the value behind it
  abbrev pub typed_at : ℕ → ℕ → FieldRequirement → ℕ → List ℕ → Result (Option (Value A) × List ℕ) BlobFault
  typed_at total at requirement kind bytes =
      if kind == 2 then fault Real at
      else (if nat_lt 5 kind then fault BadField at
      else (if not (allows requirement kind) then fault BadRecord at
      else content_at total at kind bytes))

  unfoldable pub field_at : ℕ → FieldRequirement → List ℕ → Result (Option (Value A) × List ℕ) BlobFault
  field_at total required.Omitted bytes = Ok (None, bytes)
  field_at total requirement bytes =
      byte_at total bytes >>= (λ kind. typed_at total (place total bytes) requirement kind.0 kind.1)
