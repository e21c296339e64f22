-- The bytes of values, and the values of bytes.
use Rattle.std.proofs.Common.{◌≡◌, ◌==◌, true, false, ℕ, zero, suc, add-one, ◌+◌, ◌≤◌, ◌<◌, List, [], ◌∷◌, ◌++◌, length, drop, take, take_at, ◌-◌, slice_get, eqb-true, Result, Ok, Err, IsOk, refl, sym, ap, subst, ◌∙◌, append-nil, length-append, arith}
use Rattle.std.specs.Prelude.{OnOk, OnErr}
use Rattle.cap_value.specs.declared.value.Value.{Value}
use Rattle.cap_value.specs.Value.{IsValue}
use Rattle.cap_field.specs.Field.{value_bytes, values_bytes}
use Rattle.cap_field.specs.FieldReading.{value_at}
use Rattle.cap_field.proofs.FieldAgain.{value_again}
use Rattle.cap_row.specs.Encoding.{fields_from, fields_of, AreValues, Encodes}
use Rattle.cap_row.specs.Key.{fields_eq, fields_eq_decides}
use Rattle.std.proofs.lemmas.Bool.Decides.{Decides-eqb, same_from_decides}
use Rattle.std.proofs.lemmas.Slice.Eq.{slice_eq-Decides}
use Rattle.std.specs.Cmp.Lexicographic.{pointwise}
use Rattle.std.proofs.Common.{Bool, nat_eq}
use Rattle.std.proofs.lemmas.Grind.{flat_map-append}
use Rattle.std.proofs.lemmas.List.{drop-drop}

-- ---- lists

-- an element behind the first
pub slice_get_behind : {X : Type 0} (x : X) (xs : List X) (n m : ℕ) → n ≡ m + 1 → slice_get (x ∷ xs) n ≡ slice_get xs m
slice_get_behind x xs n m e = rw (e, add-one) refl

pub passed : {X : Type 0} (xs : List X) (i : ℕ) (x : X) (rest ys : List X) → rest ≡ drop i xs → rest ≡ x ∷ ys → ys ≡ drop (i + 1) xs
passed xs i x rest ys is first = ap (drop 1) (sym first ∙ is) ∙ drop-drop 1 i xs

pub before_rest : (bytes front rest : List ℕ) → bytes ≡ front ++ rest → take (length bytes - length rest) bytes ≡ front
before_rest bytes front rest parts = subst (λ (all : List ℕ). take (length all - length rest) all ≡ front) (sym parts) (take_at front rest (length (front ++ rest) - length rest) (omega (arith, length-append front rest)))

module _ {A : Type 0} where
  pub some_bytes : (value : Value A) → 0 < length (value_bytes value)
  some_bytes value = grind arith

  from_bytes : (most : ℕ) (values : List (Value A)) → AreValues values → length (values_bytes values) ≤ most → fields_from most (values_bytes values) ≡ values
  unfolding fields_from value_at
  from_bytes zero [] each fits = refl
  from_bytes (suc most) [] each fits = refl
  from_bytes zero (value ∷ values) each fits = absurd (omega (arith, some_bytes value, length-append (value_bytes value) (values_bytes values)))
  from_bytes (suc most) (value ∷ values) each fits =
      rw (value_again 0 value (values_bytes values) each.0)
      (ap (λ (l : List (Value A)). value ∷ l) (from_bytes most values each.1 (omega (arith, some_bytes value, length-append (value_bytes value) (values_bytes values)))))

  -- the bytes of values spell just these
  pub values_again : (values : List (Value A)) → AreValues values → fields_of (values_bytes values) ≡ values
  unfolding fields_of
  values_again values each = from_bytes (length (values_bytes values)) values each (omega arith)

  pub encoded : (bytes : List ℕ) (values : List (Value A)) → AreValues values → bytes ≡ values_bytes values → (fields_of bytes ≡ values) × Encodes {A = A} bytes (fields_of bytes)
  encoded bytes values each spelled =
      let same : fields_of bytes ≡ values = ap fields_of spelled ∙ values_again values each in
      (same, subst (Encodes bytes) (sym same) (record { each = each; spelled = spelled }))

  -- ---- no values, and one more

  pub no_values : fields_of {A = A} [] ≡ []
  no_values = values_again [] tt

  pub each-append : (xs ys : List (Value A)) → AreValues xs → AreValues ys → AreValues (xs ++ ys)
  each-append [] ys a b = b
  each-append (x ∷ xs) ys a b = (a.0, each-append xs ys a.1 b)

  -- more values
  pub appended : (old new : List ℕ) (values : List (Value A)) → Encodes {A = A} old (fields_of old) → AreValues values → new ≡ old ++ values_bytes values
      → (fields_of new ≡ fields_of old ++ values) × Encodes {A = A} new (fields_of new)
  appended old new values encodes fits is =
      encoded new (fields_of old ++ values) (each-append (fields_of old) values encodes.each fits)
      (is ∙ ap (λ (r : List ℕ). r ++ values_bytes values) encodes.spelled ∙ sym (flat_map-append value_bytes (fields_of old) values))

  pub appended_fields : (old : List ℕ) (values : List (Value A)) → Encodes {A = A} old (fields_of old) → AreValues values → fields_of (old ++ values_bytes values) ≡ fields_of old ++ values
  appended_fields old values encodes fits = (appended old (old ++ values_bytes values) values encodes fits refl).0

  pub appended_value : (old : List ℕ) (value : Value A) → Encodes {A = A} old (fields_of old) → IsValue value → fields_of (old ++ value_bytes value) ≡ fields_of old ++ (value ∷ [])
  appended_value old value encodes fits = (appended old (old ++ value_bytes value) (value ∷ []) encodes (fits, tt) (ap (λ (r : List ℕ). old ++ r) (sym (append-nil (value_bytes value))))).0

  -- the bytes that a call leaves which appends values, or answers an error
  pub still_encodes : {E : Type 0} (result : Result (Unit {0}) E) (old new bytes : List ℕ) (values : List (Value A)) → Encodes {A = A} old (fields_of old) → AreValues values → bytes ≡ values_bytes values
      → OnOk result (new ≡ old ++ bytes) → OnErr result (new ≡ old) → Encodes {A = A} new (fields_of new)
  still_encodes (Ok x) old new bytes values encodes fits spelled is kept = (appended old new values encodes fits (is ∙ ap (λ (r : List ℕ). old ++ r) spelled)).1
  still_encodes (Err e) old new bytes values encodes fits spelled is kept = subst (λ (b : List ℕ). Encodes {A = A} b (fields_of b)) (sym kept) encodes

  -- rows have the same bytes exactly where they are the same
  pub same_by_bytes : (a b : List ℕ) (x y : List (Value A)) (r : Bool) → Encodes {A = A} a (fields_of a) → Encodes {A = A} b (fields_of b) → fields_of a ≡ x → fields_of b ≡ y → r ≡ pointwise nat_eq a b → r ≡ fields_eq x y
  same_by_bytes a b x y r p q is at_b e =
      let d = slice_eq-Decides Decides-eqb a b r e in
      same_from_decides r (fields_eq x y) (
        λ t. sym is ∙ ap fields_of (d.0 t) ∙ at_b,
        λ same. d.1 (p.spelled ∙ ap values_bytes (is ∙ same ∙ sym at_b) ∙ sym q.spelled),
      ) (fields_eq_decides x y)

  -- each value has a byte or more
  few : (values : List (Value A)) → length values ≤ length (values_bytes values)
  few [] = omega arith
  few (value ∷ values) = omega (arith, few values, some_bytes value, length-append (value_bytes value) (values_bytes values))

  pub few_values : (bytes : List ℕ) → Encodes {A = A} bytes (fields_of bytes) → length (fields_of {A = A} bytes) ≤ length bytes
  few_values bytes encodes = subst (λ (n : ℕ). length (fields_of {A = A} bytes) ≤ n) (sym (ap length encodes.spelled)) (few (fields_of bytes))

  -- ---- the first value

  -- bytes that are not empty begin with the first value, and those behind it are of the others
  pub record First (bytes : List ℕ) (value : Value A) (rest : List ℕ) : Type 0 where
    pub values : fields_of bytes ≡ value ∷ fields_of rest
    pub encodes : Encodes {A = A} rest (fields_of rest)
    pub fits : IsValue value
    pub parts : bytes ≡ value_bytes value ++ rest

  pub first : (bytes : List ℕ) (values : List (Value A)) → fields_of bytes ≡ values → AreValues values → bytes ≡ values_bytes values → (length bytes == 0) ≡ false
      → IsOk (value_at {A = A} 0 bytes) × ((value : Value A) (rest : List ℕ) → value_at 0 bytes ≡ Ok (value, rest) → First bytes value rest)
  first bytes [] is each spelled some = absurd (cc (rw spelled at some))
  first bytes (value ∷ values) is each spelled some =
      let read : value_at 0 bytes ≡ Ok (value, values_bytes values) = ap (value_at 0) spelled ∙ value_again 0 value (values_bytes values) each.0 in
      let others = encoded (values_bytes values) values each.1 refl in
      let here : First bytes value (values_bytes values) = record {
        values = is ∙ ap (λ (l : List (Value A)). value ∷ l) (sym others.0);
        encodes = others.1;
        fits = each.0;
        parts = spelled;
      } in
      (rw read refl, λ v r read'. let same : (value, values_bytes values) ≡ (v, r) = cc (read, read') in subst (λ (p : Value A × List ℕ). First bytes p.0 p.1) same here)

  pub ended : (bytes : List ℕ) → (length bytes == 0) ≡ true → fields_of {A = A} bytes ≡ []
  ended [] e = no_values
  ended (byte ∷ bytes) e = absurd (omega (arith, eqb-true (length (byte ∷ bytes)) 0 e))
