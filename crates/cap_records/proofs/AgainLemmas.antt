-- The record of a row or of a key is read as it again, and spells nothing else.
use Rattle.std.proofs.Common.{◌≡◌, ℕ, zero, suc, ◌≤◌, true, false, not, nat_le, IsTrue, List, [], ◌∷◌, ◌++◌, length, map, Option, Some, None, IfSome, Ok, refl, sym, ap, subst, ◌∙◌, arith, length-append}
use Rattle.std.specs.Global.{Global}
use Rattle.std.specs.List.{AllByRecursion, list_all, list_any}
use Rattle.std.specs.Prelude.{All, IfOk, OnOk, Result, Err, is_some}
use Rattle.std.proofs.lemmas.List.Elements.{recursion_from_All}
use Rattle.std.proofs.lemmas.Bool.{and_parts, le-leb, not-true, or_parts}
use Rattle.cap_value.specs.declared.value.Value.{Value}
use Rattle.cap_value.specs.Value.{IsValue, is_null}
use Rattle.cap_row.specs.Fields.{Fields}
use Rattle.cap_row.specs.Key.{is_key, key_from}
use Rattle.cap_changes.specs.FieldRecord.{RecordFields}
use Rattle.cap_changes.specs.Requirements.{satisfies}
use Rattle.cap_changes.specs.declared.field_requirement.FieldRequirement.{FieldRequirement}
use Rattle.cap_changes.specs.declared.field_requirement.FieldRequirement.TheVariants as required
use Rattle.cap_field.specs.Reading.{◌>>=◌}
use Rattle.cap_field.proofs.Spelled.{AreLow}
use Rattle.cap_field.specs.Field.{value_bytes}
use Rattle.cap_changes.specs.Field.{field_bytes, record_bytes}
use Rattle.cap_changes.specs.FieldReading.{field_at}
use Rattle.cap_changes.proofs.FieldAgain.{field_again}
use Rattle.cap_records.specs.Record.{defined, fields_at, has_byte, key_in, record_in, row_in, values_bytes}
use Rattle.cap_records.proofs.FieldLemmas.{AreSpelled, IsWhole, a_byte, asked-is, no_more, one_more, record_spelled}

-- ---- fields

field_read : (requirement : FieldRequirement) (total : ℕ) (field : Option (Value Global)) (rest : List ℕ) → IsTrue (has_byte requirement) → IsWhole requirement field → field_at total requirement (field_bytes field ++ rest) ≡ Ok (field, rest)
field_read requirement total field rest is whole =
    ap (λ (b : List ℕ). field_at total requirement (b ++ rest)) (sym (asked-is requirement field is)) ∙ field_again total requirement field rest whole.0 whole.1

fields_again : (requirement : FieldRequirement) (most total : ℕ) (fields : RecordFields Global) → IsTrue (has_byte requirement) → AllByRecursion (IsWhole requirement) fields → length (record_bytes fields) ≤ most → fields_at requirement most total (record_bytes fields) ≡ Ok fields
fields_again requirement most total [] is whole le = no_more requirement most total
fields_again requirement zero total (field ∷ fields) is whole le = absurd (omega (arith, a_byte field, length-append (field_bytes field) (record_bytes fields)))
fields_again requirement (suc most) total (field ∷ fields) is whole le =
    let bytes = length-append (field_bytes field) (record_bytes fields) in
    let first = field_read requirement total field (record_bytes fields) is whole.0 in
    let others = fields_again requirement most total fields is whole.1 (omega (arith, a_byte field, bytes)) in
    one_more requirement most total (field_bytes field ++ record_bytes fields) (omega (arith, a_byte field, bytes)) ∙ rw (first, others) refl

-- ---- values

-- the fields of a row or of a key
some_bytes : (values : Fields Global) → record_bytes (map Some values) ≡ values_bytes values
some_bytes [] = refl
some_bytes (value ∷ values) = ap (λ (b : List ℕ). value_bytes value ++ b) (some_bytes values)

some_defined : (values : Fields Global) → defined (map Some values) ≡ values
some_defined [] = refl
some_defined (value ∷ values) = ap (λ (vs : Fields Global). value ∷ vs) (some_defined values)

values_read : (requirement : FieldRequirement) (values : Fields Global) → IsTrue (has_byte requirement) → AllByRecursion (IsWhole requirement) (map Some values) → (record_in requirement (values_bytes values) >>= (λ fields. Ok (defined fields))) ≡ Ok values
values_read requirement values is whole =
    let fields : RecordFields Global = map Some values in
    let read : record_in requirement (record_bytes fields) ≡ Ok fields = fields_again requirement (length (record_bytes fields)) (length (record_bytes fields)) fields is whole (omega arith) in
    let read' : record_in requirement (values_bytes values) ≡ Ok fields = subst (λ (b : List ℕ). record_in requirement b ≡ Ok fields) (some_bytes values) read in
    rw read' (ap (λ (vs : Fields Global). Ok vs) (some_defined values))

-- ---- rows

row_whole : (row : Fields Global) → AllByRecursion IsValue row → AllByRecursion (IsWhole required.Defined) (map Some row)
row_whole [] fits = tt
row_whole (value ∷ row) fits = ((refl, fits.0), row_whole row fits.1)

pub row_again : (row : Fields Global) → AllByRecursion IsValue row → row_in (values_bytes row) ≡ Ok row
row_again row fits = values_read required.Defined row refl (row_whole row fits)

-- a record that was made of a row
-- bytes that are those of a row are read as the row again
pub row_encoded : (bytes : List ℕ) (row : Fields Global) → bytes ≡ values_bytes row → AllByRecursion IsValue row → row_in bytes ≡ Ok row
row_encoded bytes row spelled fits = ap row_in spelled ∙ row_again row fits

-- the fields of a record are all defined
pub all_defined : (requirement : FieldRequirement) (fields : RecordFields Global) → satisfies {A = Global} requirement None ≡ false → AllByRecursion (IsWhole requirement) fields → list_all is_some fields ≡ true
all_defined requirement [] never whole = refl
all_defined requirement (None ∷ fields) never whole = absurd (cc (never, whole.0.0))
all_defined requirement (Some value ∷ fields) never whole = all_defined requirement fields never whole.1

pub values_in : (requirement : FieldRequirement) (bytes : List ℕ) (fields : RecordFields Global) (values : Fields Global) → record_in requirement bytes ≡ Ok fields → fields ≡ map Some values → (record_in requirement bytes >>= (λ fields. Ok (defined fields))) ≡ Ok values
values_in requirement bytes fields values read full = rw (read, full, some_defined values) refl

pub values_spelled : (requirement : FieldRequirement) (bytes : List ℕ) (fields : RecordFields Global) (values : Fields Global) → AreSpelled requirement fields bytes → fields ≡ map Some values → values_bytes values ≡ bytes
values_spelled requirement bytes fields values spelled full = sym (spelled.0 ∙ ap (λ (f : RecordFields Global). record_bytes f) full ∙ some_bytes values)

-- ---- keys

-- no value is NULL
key_whole : (key : Fields Global) → AllByRecursion IsValue key → list_any is_null key ≡ false → AllByRecursion (IsWhole required.Key) (map Some key)
key_whole [] fits none = tt
key_whole (value ∷ key) fits none =
    let known = or_parts (is_null value) (list_any is_null key) none in
    ((rw known.0 refl, fits.0), key_whole key fits.1 known.1)

pub key_again : (key : Fields Global) → AllByRecursion IsValue key → IsTrue (is_key key) → key_in (values_bytes key) ≡ Ok key
key_again key fits is =
    values_read required.Key key refl (key_whole key fits (not-true (list_any is_null key) (and_parts (nat_le 1 (length key)) (not (list_any is_null key)) is).1))

-- a record that was made of a key
pub key_made : {V E : Type 0} (items : V → List ℕ) (result : Result V E) (key : Fields Global) → IsTrue (is_key key) → IfOk result (λ v. items v ≡ values_bytes key) → OnOk result (All IsValue key) → IfOk result (λ v. key_in (items v) ≡ Ok key)
key_made items (Ok v) key is bytes fits = ap key_in bytes ∙ key_again key (recursion_from_All IsValue key fits) is
key_made items (Err e) key is bytes fits = tt

none_null : (values : Fields Global) → AllByRecursion (IsWhole required.Key) (map Some values) → list_any is_null values ≡ false
none_null [] whole = refl
none_null (value ∷ values) whole = rw (not-true (is_null value) whole.0.0) (none_null values whole.1)

-- a record with bytes, in which every field is a value other than NULL, is of a key
key_stands : (bytes : List ℕ) (values : Fields Global) → 1 ≤ length bytes → AreSpelled required.Key (map Some values) bytes → is_key values ≡ true
key_stands bytes [] some spelled = absurd (omega (arith, ap length spelled.0))
key_stands bytes (value ∷ values) some spelled = rw (le-leb 1 (length (value ∷ values)) (omega arith), none_null (value ∷ values) spelled.1) refl

-- the key that is made of its values
pub key_is : (bytes : List ℕ) (fields : RecordFields Global) (values items : Fields Global) (key : Option (Fields Global)) → 1 ≤ length bytes → AreLow bytes → record_in required.Key bytes ≡ Ok fields
    → fields ≡ map Some values → items ≡ values → key ≡ key_from items → key ≡ Some values
key_is bytes fields values items key some low read full same made =
    let spelled = subst (λ f. AreSpelled required.Key f bytes) full (record_spelled required.Key bytes fields refl low read) in
    made ∙ rw (same, key_stands bytes values some spelled) refl
