-- What is left of a list that is gone over.
use Rattle.std.proofs.Common.{◌≡◌, ℕ, zero, suc, ◌+◌, ◌-◌, ◌<◌, ◌≤◌, Bool, List, [], ◌∷◌, ◌++◌, length, map, take, drop, take_at, drop_at, get_or, slice_get, Option, Some, None, IfSome, Ok, IsOk, IsTrue, inl, refl, sym, ap, subst, ◌∙◌, append_assoc, length-append, length-drop, arith}
use Rattle.std.proofs.lemmas.Grind.{flat_map-append}
use Rattle.std.proofs.lemmas.List.{drop-drop, drop_more, take-append-drop}
use Rattle.std.proofs.lemmas.List.Elements.{All-head, All-rest, All-take}
use Rattle.cap_value.specs.declared.value.Value.{Value}
use Rattle.cap_value.specs.Value.{IsValue}
use Rattle.cap_changes.specs.Entries.{AllFit}
use Rattle.cap_changes.specs.Field.{field_bytes, record_bytes}
use Rattle.cap_changes.specs.FieldReading.{field_at}
use Rattle.cap_changes.specs.FieldRecord.{RecordFields}
use Rattle.cap_changes.specs.Record.{fields_of, stored_fields, IsRecord, IsStored}
use Rattle.cap_changes.specs.declared.field_requirement.FieldRequirement.TheVariants.{Any}
use Rattle.cap_changes.proofs.StoredRecord.{HasFirst, few_fields, is_read, first_is, stored}
use Rattle.cap_changes.proofs.ValueLemmas.{each_of, values_of}

-- one more was taken
pub record Taken {X : Type 0} (xs others : List X) (passed : ℕ) : Type 0 where
  pub left : others ≡ drop (passed + 1) xs
  pub within : passed + 1 ≤ length xs

pub taken : {X : Type 0} (xs : List X) (passed : ℕ) (x : X) (others : List X) → drop passed xs ≡ x ∷ others → Taken xs others passed
taken xs passed x others is = record {
  left = sym (sym (drop-drop 1 passed xs) ∙ ap (drop 1) is);
  within = omega (arith, length-drop passed xs, ap length is);
}

-- the one so many places on is the next that is left
pub next_at : {X : Type 0} (xs : List X) (passed : ℕ) (x : X) (others : List X) → drop passed xs ≡ x ∷ others → slice_get xs passed ≡ Some x
next_at [] zero x others is = cc
next_at (y ∷ xs) (suc passed) x others is = next_at xs passed x others is
next_at xs passed x others is = cc

pub drop_here : {X : Type 0} (xs : List X) (i : ℕ) (x : X) → i < length xs → x ≡ get_or xs i x → drop i xs ≡ x ∷ drop (i + 1) xs
drop_here xs i x within is = drop_more xs i x within ∙ ap (λ y. y ∷ drop (i + 1) xs) (sym is)

pub none_left : {X : Type 0} (xs : List X) (passed : ℕ) → drop passed xs ≡ [] → length xs ≤ passed
none_left xs passed is = omega (arith, length-drop passed xs, ap length is)

module _ {A : Type 0} where
  pub whole_few : (keys : Option (List Bool)) (bytes : List ℕ) (fields : RecordFields A) → keys ≡ None → IsStored A keys bytes → stored_fields keys bytes ≡ fields → length fields ≤ length bytes
  whole_few keys bytes fields none is view = let i = rw none at is in let v = rw none at view in rw (← v) (few_fields bytes i)

-- ---- a record as two, one behind the other

module _ (A : Type 0) where
  -- so many fields are passed
  pub record Passed (bytes : List ℕ) (at : ℕ) (rest : List ℕ) : Type 0 where
    pub is : IsRecord {A = A} rest (fields_of rest)
    pub left : drop at (fields_of {A = A} bytes) ≡ fields_of rest

  some_left : (bytes : List ℕ) (at : ℕ) (rest : List ℕ) → Passed bytes at rest → at < length (fields_of {A = A} bytes) → HasFirst None None rest
  some_left bytes at rest passed lt = inl (refl, refl, omega (arith, few_fields rest passed.is, ap length passed.left, length-drop at (fields_of {A = A} bytes)))

  pub is_field : (bytes : List ℕ) (at : ℕ) (rest : List ℕ) → Passed bytes at rest → at < length (fields_of {A = A} bytes) → IsOk (field_at {A = A} 0 Any rest)
  is_field bytes at rest passed lt = is_read A None None rest (some_left bytes at rest passed lt) passed.is

  pub one_more : (bytes : List ℕ) (at : ℕ) (rest after : List ℕ) (field : Option (Value A)) → Passed bytes at rest → at < length (fields_of {A = A} bytes) → field_at 0 Any rest ≡ Ok (field, after) → Passed bytes (at + 1) after
  one_more bytes at rest after field passed lt read =
      let f = first_is A None None rest after field (some_left bytes at rest passed lt) passed.is read in
      record { is = f.stored; left = sym (taken (fields_of bytes) at field (fields_of after) (passed.left ∙ f.fields)).left }

  -- the fields before a place, and those from it on
  pub record AreApart (bytes : List ℕ) (at : ℕ) (rest : List ℕ) : Type 0 where
    pub shorter : length rest ≤ length bytes
    pub front : IsRecord {A = A} (take (length bytes - length rest) bytes) (fields_of (take (length bytes - length rest) bytes))
    pub first : fields_of {A = A} (take (length bytes - length rest) bytes) ≡ take at (fields_of bytes)
    pub behind : drop (length bytes - length rest) bytes ≡ rest

  pub apart : (bytes : List ℕ) (at : ℕ) (rest : List ℕ) → Passed bytes at rest → IsRecord {A = A} bytes (fields_of bytes) → AreApart bytes at rest
  apart bytes at rest passed is =
      let fields = fields_of {A = A} bytes in
      let front = record_bytes (take at fields) in
      let parts : bytes ≡ front ++ rest = is.spelled ∙ ap (record_bytes {A = A}) (sym (take-append-drop at fields)) ∙ flat_map-append field_bytes (take at fields) (drop at fields)
      ∙ ap (λ (b : List ℕ). front ++ b) (ap (record_bytes {A = A}) passed.left ∙ sym passed.is.spelled) in
      let long : length front ≡ length bytes - length rest = omega (arith, ap length parts, length-append front rest) in
      let s = stored (take (length bytes - length rest) bytes) (take at fields) (each_of (take at fields) (All-take (λ (f : Option (Value A)). IfSome f IsValue) at fields (values_of fields is.each)))
      (ap (take (length bytes - length rest)) parts ∙ take_at front rest (length bytes - length rest) long) in
      record {
        shorter = omega (arith, ap length parts, length-append front rest);
        front = s.1;
        first = s.0;
        behind = ap (drop (length bytes - length rest)) parts ∙ drop_at front rest (length bytes - length rest) long;
      }

module _ {X : Type 0} (fits : List Bool → X → Bool) where
  pub first_fits : (flags flags' : List Bool) (xs others : List X) (x : X) → flags' ≡ flags → xs ≡ x ∷ others → AllFit fits flags xs → IsTrue (fits flags' x)
  first_fits flags flags' xs others x same is all =
      subst (λ (f : List Bool). IsTrue (fits f x)) (sym same) (All-head (λ y. IsTrue (fits flags y)) x others (subst (λ (l : List X). AllFit fits flags l) is all))

  pub others_fit : (flags : List Bool) (xs others : List X) (x : X) → xs ≡ x ∷ others → AllFit fits flags xs → AllFit fits flags others
  others_fit flags xs others x is all = All-rest (λ y. IsTrue (fits flags y)) x others xs is all

-- one more image was made
pub image_made : {X Y : Type 0} (f f' : X → Y) (xs others : List X) (x : X) (made made' all : List Y) → xs ≡ x ∷ others → f' x ≡ f x → made' ≡ made ++ f' x ∷ [] → made ++ map f xs ≡ all → made' ++ map f others ≡ all
image_made {Y = Y} f f' xs others x made made' all is same grown so_far =
    ap (λ (l : List Y). l ++ map f others) grown ∙ append_assoc made (f' x ∷ []) (map f others)
    ∙ ap (λ (y : Y). made ++ y ∷ map f others) same ∙ sym (ap (λ l. made ++ map f l) is) ∙ so_far
