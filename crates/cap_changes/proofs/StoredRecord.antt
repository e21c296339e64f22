-- The bytes of records, and the fields of bytes.
use Rattle.std.proofs.Common.{◌≡◌, ◌==◌, true, false, Bool, ℕ, zero, suc, ◌≤◌, ◌<◌, List, [], ◌∷◌, ◌++◌, length, Option, Some, None, IfSome, IsTrue, eqb-true, Ok, IsOk, refl, sym, ap, subst, ◌∙◌, append-nil, length-append, arith, ◌-◌, get_or, take, drop, inl, inr, ◌⊎◌, ◌≢◌}
use Rattle.std.proofs.lemmas.Bool.{and_parts}
use Rattle.cap_value.specs.declared.value.Value.{Value}
use Rattle.cap_value.specs.Value.{IsValue}
use Rattle.cap_changes.specs.Field.{field_bytes, record_bytes, key_bytes}
use Rattle.cap_changes.specs.FieldReading.{field_at, content_at}
use Rattle.cap_changes.specs.FieldRecord.{RecordFields}
use Rattle.cap_changes.specs.Record.{fields_from, fields_of, keys_of, AreFields, IsRecord, IsKeyRecord, stored_fields, IsStored, IsFirstField}
use Rattle.cap_changes.specs.RecordReading.{record_at}
use Rattle.cap_changes.specs.Requirements.{requirements, satisfies, satisfy}
use Rattle.cap_changes.specs.declared.field_requirement.FieldRequirement.TheVariants.{Any, Key, Omitted}
use Rattle.cap_changes.specs.declared.record_kind.RecordKind.TheVariants.{KeyAlone}
use Rattle.cap_changes.proofs.FieldAgain.{field_again}
use Rattle.cap_changes.proofs.FieldAgain.{fields_again, kind_asked}
use Rattle.std.proofs.lemmas.List.{take_all}
use Rattle.std.proofs.Math.Seq.{take-append_seam}
use Rattle.cap_field.specs.Reading.{◌>>=◌}
use Rattle.cap_field.specs.FieldReading.{value_at}
use Rattle.cap_field.specs.FieldReading as values

-- the first field has bytes, and the record behind it has these columns
abbrev pub HasFirst : (keys others : Option (List Bool)) → List ℕ → Type 0
HasFirst keys others bytes = ((keys ≡ None) × (others ≡ None) × (0 < length bytes)) ⊎ ((flags : List Bool) × (keys ≡ Some (true ∷ flags)) × (others ≡ Some flags))

module _ {A : Type 0} where
  from_bytes : (most : ℕ) (fields : RecordFields A) → AreFields fields → length (record_bytes fields) ≤ most → fields_from most (record_bytes fields) ≡ fields
  unfolding fields_from field_at
  from_bytes zero (field ∷ fields) each fits = grind (arith, length-append)
  from_bytes (suc most) (field ∷ fields) each fits = grind (arith, length-append, field_again 0 Any field (record_bytes fields), from_bytes most fields)
  from_bytes most fields each fits = refl

  -- the bytes of fields spell just these
  pub stored : (bytes : List ℕ) (fields : RecordFields A) → AreFields fields → bytes ≡ record_bytes fields → (fields_of bytes ≡ fields) × IsRecord {A = A} bytes (fields_of bytes)
  unfolding fields_of
  stored bytes fields each spelled =
      let same : fields_of bytes ≡ fields = ap fields_of spelled ∙ from_bytes (length (record_bytes fields)) fields each (omega arith) in
      (same, subst (IsRecord bytes) (sym same) (record { each = each; spelled = spelled }))

  -- ---- no fields

  pub of_none : (fields_of {A = A} [] ≡ []) × IsRecord {A = A} [] (fields_of [])
  of_none = stored [] [] tt refl

  -- each field has a byte or more
  few : (fields : RecordFields A) → length fields ≤ length (record_bytes fields)
  few [] = omega arith
  few (field ∷ fields) = grind (arith, length-append, few fields)

  pub few_fields : (bytes : List ℕ) → IsRecord {A = A} bytes (fields_of bytes) → length (fields_of {A = A} bytes) ≤ length bytes
  few_fields bytes is = subst (λ (n : ℕ). length (fields_of {A = A} bytes) ≤ n) (sym (ap length is.spelled)) (few (fields_of bytes))

  -- ---- records of the key alone

  pub stored_key : (flags : List Bool) (bytes : List ℕ) (fields : RecordFields A) → AreFields fields → IsTrue (satisfy (requirements KeyAlone flags) fields) → bytes ≡ key_bytes fields
      → (keys_of flags bytes ≡ fields) × IsKeyRecord {A = A} flags bytes (keys_of flags bytes)
  unfolding keys_of
  stored_key flags bytes fields each fits spelled =
      let read : record_at 0 (requirements KeyAlone flags) bytes ≡ Ok (fields, []) =
      ap (record_at 0 (requirements KeyAlone flags)) (spelled ∙ sym (kind_asked KeyAlone flags fields fits) ∙ sym (append-nil _)) ∙ fields_again 0 (requirements KeyAlone flags) fields [] fits each in
      let same : keys_of flags bytes ≡ fields = rw read refl in
      (same, subst (IsKeyRecord flags bytes) (sym same) (record { each = each; fits = fits; spelled = spelled }))

  -- ---- the first field, and its bytes

  -- the bytes begin with the first field, and those behind it are of the other columns
  pub record First (keys others : Option (List Bool)) (bytes : List ℕ) (field : Option (Value A)) (rest : List ℕ) : Type 0 where
    pub read : field_at 0 Any bytes ≡ Ok (field, rest)
    pub fields : stored_fields keys bytes ≡ field ∷ stored_fields others rest
    pub stored : IsStored A others rest
    pub fits : IfSome field IsValue
    pub parts : bytes ≡ field_bytes field ++ rest

  begin : (keys others : Option (List Bool)) (bytes : List ℕ) (field : Option (Value A)) (rest : List ℕ) (fields : RecordFields A) → stored_fields keys bytes ≡ field ∷ fields → (stored_fields others rest ≡ fields) × IsStored A others rest
      → IfSome field IsValue → bytes ≡ field_bytes field ++ rest → (f : Option (Value A)) × (r : List ℕ) × First keys others bytes f r
  begin keys others bytes field rest fields is behind fits parts = (
    field,
    rest,
    record {
      read = ap (field_at 0 Any) parts ∙ field_again 0 Any field rest refl fits;
      fields = is ∙ ap (λ (l : RecordFields A). field ∷ l) (sym behind.0);
      stored = behind.1;
      fits = fits;
      parts = parts;
    },
  )

  -- of a record that has all fields, or of the key alone, by its fields
  first_of : (bytes : List ℕ) (fields : RecordFields A) → fields_of bytes ≡ fields → AreFields fields → bytes ≡ record_bytes fields → 0 < length bytes → (field : Option (Value A)) × (rest : List ℕ) × First None None bytes field rest
  first_of bytes [] is each spelled some = absurd (omega (arith, ap length spelled))
  first_of bytes (field ∷ fields) is each spelled some = begin None None bytes field (record_bytes fields) fields is (stored (record_bytes fields) fields each.1 refl) each.0 spelled

  first_key_of : (flags : List Bool) (bytes : List ℕ) (fields : RecordFields A) → keys_of (true ∷ flags) bytes ≡ fields → AreFields fields → IsTrue (satisfy (requirements KeyAlone (true ∷ flags)) fields) → bytes ≡ key_bytes fields
      → (field : Option (Value A)) × (rest : List ℕ) × First (Some (true ∷ flags)) (Some flags) bytes field rest
  first_key_of flags bytes (Some value ∷ fields) is each fits spelled =
      let met = and_parts (satisfies Key (Some value)) (satisfy (requirements KeyAlone flags) fields) fits in
      begin (Some (true ∷ flags)) (Some flags) bytes (Some value) (key_bytes fields) fields is (stored_key flags (key_bytes fields) fields each.1 met.1 refl) each.0 spelled
  first_key_of flags bytes fields is each fits spelled = absurd cc

  -- the first field is outside the key
  other_of : (flags : List Bool) (bytes : List ℕ) (fields : RecordFields A) → keys_of (false ∷ flags) bytes ≡ fields → AreFields fields → IsTrue (satisfy (requirements KeyAlone (false ∷ flags)) fields) → bytes ≡ key_bytes fields
      → (keys_of {A = A} (false ∷ flags) bytes ≡ None ∷ keys_of flags bytes) × IsKeyRecord {A = A} flags bytes (keys_of flags bytes)
  other_of flags bytes (None ∷ fields) is each fits spelled =
      let met = and_parts (satisfies {A = A} Omitted None) (satisfy (requirements KeyAlone flags) fields) fits in
      let others = stored_key flags bytes fields each.1 met.1 spelled in
      (is ∙ ap (λ (l : RecordFields A). None ∷ l) (sym others.0), others.1)
  other_of flags bytes fields is each fits spelled = absurd cc

  pub other_first : (keys : Option (List Bool)) (flags : List Bool) (bytes : List ℕ) → keys ≡ Some (false ∷ flags) → IsStored A keys bytes
      → (stored_fields {A = A} keys bytes ≡ None ∷ keys_of flags bytes) × IsKeyRecord {A = A} flags bytes (keys_of flags bytes)
  other_first keys flags bytes keyed is = let k = rw keyed at is in rw keyed (other_of flags bytes (keys_of (false ∷ flags) bytes) refl k.each k.fits k.spelled)

  pub none_first : (keys : Option (List Bool)) (bytes : List ℕ) → keys ≡ None → (length bytes == 0) ≡ true → stored_fields {A = A} keys bytes ≡ []
  none_first keys [] none empty = rw none of_none.0
  none_first keys (byte ∷ bytes) none empty = absurd (omega (arith, eqb-true (length (byte ∷ bytes)) 0 empty))

module _ (A : Type 0) where
  first : (keys others : Option (List Bool)) (bytes : List ℕ) → HasFirst keys others bytes → IsStored A keys bytes → (field : Option (Value A)) × (rest : List ℕ) × First keys others bytes field rest
  first keys others bytes (inl (whole, left, some)) is = let w = rw whole at is in rw (whole, left) (first_of bytes (fields_of bytes) refl w.each w.spelled some)
  first keys others bytes (inr (flags, keyed, left)) is = let k = rw keyed at is in rw (keyed, left) (first_key_of flags bytes (keys_of (true ∷ flags) bytes) refl k.each k.fits k.spelled)

  pub is_read : (keys others : Option (List Bool)) (bytes : List ℕ) → HasFirst keys others bytes → IsStored A keys bytes → IsOk (field_at {A = A} 0 Any bytes)
  is_read keys others bytes has is = let (field, rest, f) = first keys others bytes has is in rw f.read refl

  pub first_is : (keys others : Option (List Bool)) (bytes rest : List ℕ) (field : Option (Value A)) → HasFirst keys others bytes → IsStored A keys bytes → field_at 0 Any bytes ≡ Ok (field, rest) → First keys others bytes field rest
  first_is keys others bytes rest field has is read =
      let (f, r, found) = first keys others bytes has is in
      let same : (f, r) ≡ (field, rest) = cc (found.read, read) in
      subst (λ (p : Option (Value A) × List ℕ). First keys others bytes p.0 p.1) same found

  pub first_parts : (keys others : Option (List Bool)) (bytes front rest : List ℕ) (field : Option (Value A)) (fields : RecordFields A) → HasFirst keys others bytes → IsStored A keys bytes → field_at 0 Any bytes ≡ Ok (field, rest)
      → front ≡ take (length bytes - length rest) bytes → stored_fields keys bytes ≡ fields → IsFirstField fields field front (stored_fields others rest)
  first_parts keys others bytes front rest field fields has is read front_is view =
      let f = first_is keys others bytes rest field has is read in
      (sym view ∙ f.fields, grind (arith, f.parts, length-append (field_bytes field) rest, take-append_seam (field_bytes field) rest), f.fits)

-- the bytes of a record that has all fields are not empty
pub whole_left : (keys others : Option (List Bool)) (bytes : List ℕ) → keys ≡ None → others ≡ None → (length bytes == 0) ≡ false → HasFirst keys others bytes
whole_left keys others [] none none' some = absurd cc
whole_left keys others (byte ∷ bytes) none none' some = inl (none, none', omega arith)

-- the columns behind the first, as a pattern gives them
abbrev pub Others : List Bool → List Bool
Others flags = take (length flags - 1) (drop 1 flags)

pub first_flag : (keys : Option (List Bool)) (flags : List Bool) (key d : Bool) → keys ≡ Some flags → 1 ≤ length flags → get_or flags 0 d ≡ key → keys ≡ Some (key ∷ Others flags)
first_flag keys [] key d some long is = absurd (omega arith)
first_flag keys (flag ∷ flags) key d some long is = rw (some, is, take_all (length (flag ∷ flags) - 1) flags (omega arith)) refl

pub key_left : (keys others : Option (List Bool)) (flags : List Bool) (bytes : List ℕ) (d : Bool) → keys ≡ Some flags → others ≡ Some (Others flags) → 1 ≤ length flags → get_or flags 0 d ≡ true → HasFirst keys others bytes
key_left keys others flags bytes d some left long inside = inr (Others flags, first_flag keys flags true d some long inside, left)

-- ---- a field that is defined is a value

module _ (A : Type 0) where
  -- ---- of bytes that are not empty

  pub defined_at : (bytes : List ℕ) → 1 ≤ length bytes → get_or bytes 0 0 ≢ 0 → IsOk (field_at {A = A} 0 Any bytes) → field_at {A = A} 0 Any bytes ≡ value_at 0 bytes >>= (λ v. Ok (Some v.0, v.1))
  unfolding field_at content_at values.content_at value_at
  defined_at [] long some ok = absurd (omega arith)
  defined_at (kind ∷ rest) long some ok = grind arith

  pub undefined_at : (bytes : List ℕ) → 1 ≤ length bytes → get_or bytes 0 0 ≡ 0 → field_at {A = A} 0 Any bytes ≡ Ok (None, take (length bytes - 1) (drop 1 bytes))
  unfolding field_at content_at
  undefined_at [] long none = absurd (omega arith)
  undefined_at (kind ∷ rest) long none = grind (arith, take_all (length (kind ∷ rest) - 1) rest)
