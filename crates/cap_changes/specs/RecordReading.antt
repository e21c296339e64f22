-- Reading the records of a change.
use Rattle.std.specs.Prelude.{ℕ, Bool, List, [], ◌∷◌, Result, Ok, Err}
use Rattle.cap_changes.specs.FieldRecord.{RecordFields}
use Rattle.cap_changes.specs.declared.field_requirement.FieldRequirement.{FieldRequirement}
use Rattle.cap_field.specs.declared.fault.BlobFault.{BlobFault}
use Rattle.cap_changes.specs.declared.record_kind.RecordKind.TheVariants.{Keyed}
use Rattle.cap_changes.specs.Requirements.{requirements}
use Rattle.cap_changes.specs.FieldReading.{field_at}
use Rattle.cap_field.specs.Reading.{◌>>=◌}

module _ {A : Type 0} where
  -- a field for each requirement, in order
  unfoldable pub record_at : ℕ → List FieldRequirement → List ℕ → Result (RecordFields A × List ℕ) BlobFault
  record_at total [] bytes = Ok ([], bytes)
  record_at total (requirement ∷ requirements) bytes = do
    field ← field_at total requirement bytes
    others ← record_at total requirements field.1
    Ok (field.0 ∷ others.0, others.1)

-- what is read, where it is known to be there
abbrev pub value_in : {X : Type 0} → X → Result (X × List ℕ) BlobFault → X
value_in other (Ok x) = x.0
value_in other (Err fault) = other

module _ (A : Type 0) where
  -- the old record of an UPDATE, where it is known to be there
  abbrev pub old_in : ℕ → List Bool → List ℕ → RecordFields A
  old_in total flags bytes = value_in [] (record_at total (requirements Keyed flags) bytes)
