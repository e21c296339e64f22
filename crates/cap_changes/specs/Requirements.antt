-- What is required of the fields of a record, column by column.
use Rattle.std.specs.Prelude.{Bool, true, false, List, map, Option, Some, None, is_some, is_none, not}
use Rattle.std.specs.List.{zip}
use Rattle.std.specs.Cmp.Lexicographic.{pointwise}
use Rattle.cap_value.specs.declared.value.Value.{Value}
use Rattle.cap_value.specs.Value.{is_null}
use Rattle.cap_changes.specs.FieldRecord.{RecordFields}
use Rattle.cap_changes.specs.declared.field_requirement.FieldRequirement.{FieldRequirement}
use Rattle.cap_changes.specs.declared.field_requirement.FieldRequirement.TheVariants as required
use Rattle.cap_changes.specs.declared.record_kind.RecordKind.{RecordKind}
use Rattle.cap_changes.specs.declared.record_kind.RecordKind.TheVariants as record_kinds

-- by whether the column is in the key: a key field is always defined
abbrev pub requirement_of : RecordKind → Bool → FieldRequirement
requirement_of record_kind true = required.Key
requirement_of record_kinds.Full false = required.Defined
requirement_of record_kinds.Keyed false = required.Any
requirement_of record_kinds.KeyAlone false = required.Omitted

abbrev pub requirements : RecordKind → List Bool → List FieldRequirement
requirements record_kind flags = map (requirement_of record_kind) flags

module _ {A : Type 0} where
  -- the new record of an UPDATE has no key field, and of the other fields exactly those that the old record
  -- has
  abbrev pub new_requirement : Bool × Option (Value A) → FieldRequirement
  new_requirement (true, old) = required.Undefined
  new_requirement (false, None) = required.Undefined
  new_requirement (false, Some value) = required.Defined

  abbrev pub new_requirements : List Bool → RecordFields A → List FieldRequirement
  new_requirements flags old = map new_requirement (zip flags old)

  -- whether a field satisfies a requirement: a key field is any value but NULL
  abbrev pub satisfies : FieldRequirement → Option (Value A) → Bool
  satisfies required.Key None = false
  satisfies required.Key (Some value) = not (is_null value)
  satisfies required.Defined field = is_some field
  satisfies required.Any field = true
  satisfies required.Undefined field = is_none field
  satisfies required.Omitted field = is_none field

  -- one field for each requirement, which it satisfies
  abbrev pub satisfy : List FieldRequirement → RecordFields A → Bool
  satisfy requirements fields = pointwise satisfies requirements fields
