-- What was written for a field or a record is read again, whatever follows it.
use Rattle.std.proofs.Common.{arith, ◌≡◌, ℕ, true, List, [], ◌++◌, Option, Some, None, IfSome, Ok, refl, Bool, ◌∷◌, sym, ap, ◌∙◌, append_assoc}
use Rattle.cap_value.specs.declared.value.Value.{Value}
use Rattle.cap_value.specs.declared.value.Value.TheVariants.{Null, Int, Text, Blob}
use Rattle.cap_value.specs.Value.{IsValue}
use Rattle.cap_changes.specs.Requirements.{satisfies, requirement_of, requirements, new_requirements, satisfy}
use Rattle.cap_changes.specs.declared.field_requirement.FieldRequirement.{FieldRequirement}
use Rattle.cap_changes.specs.declared.field_requirement.FieldRequirement.TheVariants as required
use Rattle.cap_field.specs.Reading.{◌>>=◌, place, byte_at}
use Rattle.cap_changes.specs.Field.{field_bytes, record_bytes, key_bytes}
use Rattle.cap_changes.specs.FieldReading.{allows, content_at, typed_at, field_at}
use Rattle.cap_field.proofs.FieldAgain.{sized_again, number_again, text_again}
use Rattle.std.specs.List.{AllByRecursion}
use Rattle.cap_changes.specs.FieldRecord.{RecordFields}
use Rattle.cap_changes.specs.declared.record_kind.RecordKind.{RecordKind}
use Rattle.cap_changes.specs.declared.record_kind.RecordKind.TheVariants as record_kinds
use Rattle.cap_changes.specs.RecordReading.{record_at}
use Rattle.cap_changes.specs.HasValues.{AreValues}
use Rattle.cap_changes.proofs.ValueLemmas.{each_of}

module _ {A : Type 0} where
  abbrev type_byte : Option (Value A) → ℕ
  type_byte None = 0
  type_byte (Some Null) = 5
  type_byte (Some (Int n)) = 1
  type_byte (Some (Text t)) = 3
  type_byte (Some (Blob b)) = 4

  typed_again : (total at : ℕ) (requirement : FieldRequirement) (field : Option (Value A)) (rest : List ℕ) → allows requirement (type_byte field) ≡ true → IfSome field IsValue
      → (byte_at total (field_bytes field ++ rest) >>= (λ kind. typed_at total at requirement kind.0 kind.1)) ≡ Ok (field, rest)
  unfolding content_at
  typed_again total at requirement None rest allowed fits = rw allowed refl
  typed_again total at requirement (Some Null) rest allowed fits = rw allowed refl
  typed_again total at requirement (Some (Int n)) rest allowed fits = rw (allowed, number_again total n rest fits) refl
  typed_again total at requirement (Some (Text t)) rest allowed fits = rw (allowed, text_again total at t rest fits.0 fits.2) refl
  typed_again total at requirement (Some (Blob b)) rest allowed fits = rw (allowed, sized_again total at b rest fits.1) refl

  -- the bytes of a field with this requirement
  abbrev pub asked_bytes : FieldRequirement → Option (Value A) → List ℕ
  asked_bytes required.Omitted field = []
  asked_bytes requirement field = field_bytes field

  pub field_again : (total : ℕ) (requirement : FieldRequirement) (field : Option (Value A)) (rest : List ℕ) → satisfies requirement field ≡ true → IfSome field IsValue
      → field_at total requirement (asked_bytes requirement field ++ rest) ≡ Ok (field, rest)
  unfolding field_at
  field_again total required.Omitted None rest met fits = refl
  field_again total required.Omitted (Some value) rest met fits = absurd cc
  field_again total requirement field rest met fits = typed_again total (place total (field_bytes field ++ rest)) requirement field rest (grind arith) fits

-- ---- records

module _ {A : Type 0} where
  abbrev pub asked_record : List FieldRequirement → RecordFields A → List ℕ
  asked_record [] fields = []
  asked_record (requirement ∷ requirements) [] = []
  asked_record (requirement ∷ requirements) (field ∷ fields) = asked_bytes requirement field ++ asked_record requirements fields

  pub fields_again : (total : ℕ) (requirements : List FieldRequirement) (fields : RecordFields A) (rest : List ℕ) → satisfy requirements fields ≡ true → AllByRecursion (λ field. IfSome field IsValue) fields
      → record_at total requirements (asked_record requirements fields ++ rest) ≡ Ok (fields, rest)
  unfolding record_at
  fields_again total (requirement ∷ requirements) (field ∷ fields) rest met fits =
      grind (arith, append_assoc (asked_bytes requirement field) (asked_record requirements fields) rest, field_again total requirement field, fields_again total requirements fields rest)
  fields_again total requirements fields rest met fits = grind arith

  pub of_keyed : (key : Bool) (field : Option (Value A)) → asked_bytes (requirement_of record_kinds.Keyed key) field ≡ field_bytes field
  of_keyed key field = grind arith

  pub new_asked : (flags : List Bool) (old new : RecordFields A) → satisfy (new_requirements flags old) new ≡ true → asked_record (new_requirements flags old) new ≡ record_bytes new
  new_asked (key ∷ flags) (before ∷ old) (field ∷ fields) met = grind (arith, new_asked flags old fields)
  new_asked flags old new met = grind arith

  -- how a record of a kind is written
  abbrev pub written : RecordKind → RecordFields A → List ℕ
  written record_kinds.Full fields = record_bytes fields
  written record_kinds.Keyed fields = record_bytes fields
  written record_kinds.KeyAlone fields = key_bytes fields

  pub kind_asked : (record_kind : RecordKind) (flags : List Bool) (fields : RecordFields A) → satisfy (requirements record_kind flags) fields ≡ true → asked_record (requirements record_kind flags) fields ≡ written record_kind fields
  kind_asked record_kinds.Full (key ∷ flags) (field ∷ fields) met = grind (arith, kind_asked record_kinds.Full flags fields)
  kind_asked record_kinds.Keyed (key ∷ flags) (field ∷ fields) met = grind (arith, kind_asked record_kinds.Keyed flags fields)
  kind_asked record_kinds.KeyAlone (key ∷ flags) (field ∷ fields) met = grind (arith, kind_asked record_kinds.KeyAlone flags fields)
  kind_asked record_kind flags fields met = grind arith

  pub asked_again : (total : ℕ) (requirements : List FieldRequirement) (fields : RecordFields A) (bytes rest : List ℕ) → satisfy requirements fields ≡ true → AreValues fields → asked_record requirements fields ≡ bytes
      → record_at total requirements (bytes ++ rest) ≡ Ok (fields, rest)
  asked_again total requirements fields bytes rest met values same =
      ap (λ (b : List ℕ). record_at total requirements (b ++ rest)) (sym same) ∙ fields_again total requirements fields rest met (each_of fields values)
