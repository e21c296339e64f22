-- A record that was read has exactly the required fields.
use Rattle.std.proofs.Common.{◌≡◌, ℕ, Bool, true, List, [], ◌∷◌, Option, Ok, arith}
use Rattle.cap_value.specs.declared.value.Value.{Value}
use Rattle.cap_changes.specs.FieldRecord.{RecordFields}
use Rattle.cap_changes.specs.declared.field_requirement.FieldRequirement.{FieldRequirement}
use Rattle.cap_changes.specs.declared.record_kind.RecordKind.TheVariants.{Full, Keyed}
use Rattle.cap_changes.specs.FieldReading.{content_at, field_at}
use Rattle.cap_changes.specs.Requirements.{requirements, satisfies, satisfy}
use Rattle.cap_changes.specs.RecordReading.{record_at}

module _ {A : Type 0} where
  pub field_meets : (total : ℕ) (requirement : FieldRequirement) (bytes : List ℕ) (x : Option (Value A) × List ℕ) → field_at total requirement bytes ≡ Ok x → satisfies requirement x.0 ≡ true
  unfolding field_at content_at
  field_meets total requirement [] x e = grind arith
  field_meets total requirement (kind ∷ bytes) x e = grind arith

  pub record_meets : (total : ℕ) (requirements : List FieldRequirement) (bytes : List ℕ) (x : RecordFields A × List ℕ) → record_at total requirements bytes ≡ Ok x → satisfy requirements x.0 ≡ true
  unfolding record_at
  record_meets total [] bytes x e = grind arith
  record_meets total (requirement ∷ requirements) bytes x e = grind (arith, field_meets, record_meets total requirements)

  -- a record in which every field is defined has the key fields
  pub full_keyed : (flags : List Bool) (fields : RecordFields A) → satisfy (requirements Full flags) fields ≡ true → satisfy (requirements Keyed flags) fields ≡ true
  full_keyed (key ∷ flags) (field ∷ fields) met = grind (arith, full_keyed flags fields)
  full_keyed flags fields met = grind arith
