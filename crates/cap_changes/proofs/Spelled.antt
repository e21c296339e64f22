-- What was read is spelled by the bytes that were read: fields and records.
use Rattle.std.proofs.Common.{sym, subst, arith, ◌≡◌, ℕ, inl, inr, false, nat_lt, ◌==◌, List, [], ◌∷◌, ◌++◌, Option, IfSome, Ok, ap, ◌∙◌, append_assoc}
use Rattle.std.specs.List.{AllByRecursion}
use Rattle.cap_value.specs.declared.value.Value.{Value}
use Rattle.cap_value.specs.Value.{IsValue}
use Rattle.cap_changes.specs.FieldRecord.{RecordFields}
use Rattle.cap_changes.specs.declared.field_requirement.FieldRequirement.{FieldRequirement}
use Rattle.cap_field.specs.Reading.{◌>>=◌, place}
use Rattle.cap_changes.specs.Field.{field_bytes}
use Rattle.cap_changes.specs.FieldReading.{content_at, field_at}
use Rattle.cap_changes.specs.HasValues.{AreValues}
use Rattle.cap_changes.specs.RecordReading.{record_at}
use Rattle.cap_field.proofs.Binds.{bind_ok, chosen, ok_is}
use Rattle.cap_changes.proofs.FieldAgain.{asked_bytes}
use Rattle.cap_changes.proofs.FieldAgain.{asked_record}
use Rattle.cap_changes.proofs.ValueLemmas.{values_of}
use Rattle.cap_field.proofs.Spelled.{AreLow, low_behind, number_spelled, sized_spelled, text_spelled}

-- ---- fields

module _ {A : Type 0} where
  abbrev IsField : List ℕ → Option (Value A) × List ℕ → Type 0
  IsField bytes x = (bytes ≡ field_bytes x.0 ++ x.1) × IfSome x.0 IsValue

  content_spelled : (total at kind : ℕ) (bytes : List ℕ) (x : Option (Value A) × List ℕ) → (kind == 2) ≡ false → nat_lt 5 kind ≡ false → AreLow bytes → content_at total at kind bytes ≡ Ok x → IsField (kind ∷ bytes) x
  unfolding content_at
  content_spelled total at kind bytes x e2 below low e =
      elim (chosen (kind == 0) _ _ _ e) [
        | inl (t0, h) ↦ grind arith
        | inr (e0, h0) ↦ elim (chosen (kind == 1) _ _ _ h0) [
          | inl (t1, h) ↦ grind (arith, number_spelled total bytes)
          | inr (e1, h1) ↦ elim (chosen (kind == 3) _ _ _ h1) [
            | inl (t3, h) ↦ grind (arith, text_spelled total at bytes)
            | inr (e3, h3) ↦ elim (chosen (kind == 4) _ _ _ h3) [
              | inl (t4, h) ↦ grind (arith, sized_spelled total at bytes)
              | inr (e4, h) ↦ grind arith
            ]
          ]
        ]
      ]

  abbrev pub IsAskedField : FieldRequirement → List ℕ → Option (Value A) × List ℕ → Type 0
  IsAskedField requirement bytes x = (bytes ≡ asked_bytes requirement x.0 ++ x.1) × IfSome x.0 IsValue

  pub field_spelled : (total : ℕ) (requirement : FieldRequirement) (bytes : List ℕ) (x : Option (Value A) × List ℕ) → AreLow bytes → field_at total requirement bytes ≡ Ok x → IsAskedField requirement bytes x
  unfolding field_at
  field_spelled total requirement [] x low e = grind arith
  field_spelled total requirement (kind ∷ bytes) x low e = grind (arith, content_spelled total (place total (kind ∷ bytes)) kind bytes x)

  -- ---- records

  abbrev pub IsAskedRecord : List FieldRequirement → List ℕ → RecordFields A × List ℕ → Type 0
  IsAskedRecord requirements bytes x = (bytes ≡ asked_record requirements x.0 ++ x.1) × AllByRecursion (λ field. IfSome field IsValue) x.0

  pub record_spelled : (total : ℕ) (requirements : List FieldRequirement) (bytes : List ℕ) (x : RecordFields A × List ℕ) → AreLow bytes → record_at total requirements bytes ≡ Ok x → IsAskedRecord requirements bytes x
  unfolding record_at
  record_spelled total [] bytes x low e = grind arith
  record_spelled total (requirement ∷ requirements) bytes x low e =
      let b = bind_ok (field_at total requirement bytes) (λ field. record_at total requirements field.1 >>= (λ others. Ok (field.0 ∷ others.0, others.1))) x e in
      let c = bind_ok (record_at total requirements b.0.1) (λ others. Ok (b.0.0 ∷ others.0, others.1)) x b.2 in
      let field = field_spelled total requirement bytes b.0 low b.1 in
      let others = record_spelled total requirements b.0.1 c.0 (low_behind bytes (asked_bytes requirement b.0.0) b.0.1 field.0 low) c.1 in
      subst (IsAskedRecord (requirement ∷ requirements) bytes) (ok_is (b.0.0 ∷ c.0.0, c.0.1) x c.2)
      (field.0 ∙ ap (λ (r : List ℕ). asked_bytes requirement b.0.0 ++ r) others.0 ∙ sym (append_assoc (asked_bytes requirement b.0.0) (asked_record requirements c.0.0) c.0.1), (field.1, others.1))

  pub as_values : (total : ℕ) (requirements : List FieldRequirement) (bytes : List ℕ) (x : RecordFields A × List ℕ) (written : List ℕ) → AreLow bytes → record_at total requirements bytes ≡ Ok x
      → asked_record requirements x.0 ≡ written → AreValues x.0 × (bytes ≡ written ++ x.1)
  as_values total requirements bytes x written low e same =
      let asked = record_spelled total requirements bytes x low e in
      (values_of x.0 asked.1, asked.0 ∙ ap (λ (front : List ℕ). front ++ x.1) same)
