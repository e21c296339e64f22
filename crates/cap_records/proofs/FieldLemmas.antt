-- Reading the fields of a record up to its end, as the loop does, and what was read.
use Rattle.std.proofs.Common.{◌≡◌, ℕ, zero, suc, ◌<◌, ◌≤◌, true, IsTrue, List, [], ◌∷◌, ◌++◌, length, Option, Some, None, IfSome, Result, Ok, Err, refl, sym, ap, subst, ◌∙◌, append_assoc, arith, length-append}
use Rattle.std.specs.Global.{Global}
use Rattle.std.specs.List.{AllByRecursion}
use Rattle.std.proofs.lemmas.List.{append-nil}
use Rattle.cap_value.specs.declared.value.Value.{Value}
use Rattle.cap_value.specs.Value.{IsValue}
use Rattle.cap_value.specs.declared.value.Value.TheVariants.{Null, Int, Text, Blob}
use Rattle.cap_changes.specs.FieldRecord.{RecordFields}
use Rattle.cap_changes.specs.Requirements.{satisfies}
use Rattle.cap_changes.specs.declared.field_requirement.FieldRequirement.{FieldRequirement}
use Rattle.cap_changes.specs.declared.field_requirement.FieldRequirement.TheVariants as required
use Rattle.cap_field.specs.declared.fault.BlobFault.{BlobFault}
use Rattle.cap_field.specs.Reading.{◌>>=◌}
use Rattle.cap_changes.specs.Field.{field_bytes, record_bytes}
use Rattle.cap_changes.specs.FieldReading.{field_at}
use Rattle.cap_changes.specs.Record.{AreFields, IsRecord, fields_of}
use Rattle.cap_changes.proofs.StoredRecord.{stored}
use Rattle.cap_field.proofs.Binds.{bind_ok, ok_is}
use Rattle.cap_changes.proofs.FieldAgain.{asked_bytes}
use Rattle.cap_changes.proofs.FitLemmas.{field_meets}
use Rattle.cap_field.proofs.Spelled.{AreLow, low_behind}
use Rattle.cap_changes.proofs.Spelled.{field_spelled}
use Rattle.cap_records.specs.Record.{fields_at, has_byte, record_in}

-- ---- a field and those behind it

pub no_more : (requirement : FieldRequirement) (most total : ℕ) → fields_at requirement most total [] ≡ Ok []
unfolding fields_at
no_more requirement zero total = refl
no_more requirement (suc most) total = refl

pub one_more : (requirement : FieldRequirement) (most total : ℕ) (bytes : List ℕ) → 1 ≤ length bytes
    → fields_at requirement (suc most) total bytes ≡ (field_at {A = Global} total requirement bytes >>= (λ field. fields_at requirement most total field.1 >>= (λ others. Ok (field.0 ∷ others))))
unfolding fields_at
one_more requirement most total [] some = absurd (omega arith)
one_more requirement most total (byte ∷ bytes) some = refl

pub a_byte : (field : Option (Value Global)) → 1 ≤ length (field_bytes field)
a_byte None = omega arith
a_byte (Some Null) = omega arith
a_byte (Some (Int n)) = omega arith
a_byte (Some (Text t)) = omega arith
a_byte (Some (Blob b)) = omega arith

pub asked-is : (requirement : FieldRequirement) (field : Option (Value Global)) → IsTrue (has_byte requirement) → asked_bytes requirement field ≡ field_bytes field
asked-is required.Key field is = refl
asked-is required.Defined field is = refl
asked-is required.Any field is = refl
asked-is required.Undefined field is = refl
asked-is required.Omitted field is = absurd cc

-- the bytes of the field, and those behind it
parts : (requirement : FieldRequirement) (total : ℕ) (bytes : List ℕ) (x : Option (Value Global) × List ℕ) → IsTrue (has_byte requirement) → AreLow bytes → field_at total requirement bytes ≡ Ok x → bytes ≡ field_bytes x.0 ++ x.1
parts requirement total bytes x is low read = (field_spelled total requirement bytes x low read).0 ∙ ap (λ (b : List ℕ). b ++ x.1) (asked-is requirement x.0 is)

fewer : (bytes front after : List ℕ) → bytes ≡ front ++ after → 1 ≤ length front → length after < length bytes
fewer bytes front after is some = omega (arith, length-append front after, ap length is)

pub shorter : (requirement : FieldRequirement) (total : ℕ) (bytes : List ℕ) (x : Option (Value Global) × List ℕ) → IsTrue (has_byte requirement) → AreLow bytes → field_at total requirement bytes ≡ Ok x → length x.1 < length bytes
shorter requirement total bytes x is low read = fewer bytes (field_bytes x.0) x.1 (parts requirement total bytes x is low read) (a_byte x.0)

pub behind_low : (requirement : FieldRequirement) (total : ℕ) (bytes : List ℕ) (x : Option (Value Global) × List ℕ) → IsTrue (has_byte requirement) → AreLow bytes → field_at total requirement bytes ≡ Ok x → AreLow x.1
behind_low requirement total bytes x is low read = low_behind bytes (field_bytes x.0) x.1 (parts requirement total bytes x is low read) low

-- ---- the loop

abbrev joined : RecordFields Global → Result (RecordFields Global) BlobFault → Result (RecordFields Global) BlobFault
joined front read = read >>= (λ fields. Ok (front ++ fields))

-- `all` is these fields, and those that are read from these bytes
unfoldable pub FieldsLeft : FieldRequirement → ℕ → RecordFields Global → List ℕ → Result (RecordFields Global) BlobFault → Type 0
FieldsLeft requirement total front rest all = (most : ℕ) × (length rest ≤ most) × (joined front (fields_at requirement most total rest) ≡ all)

none_in_front : (read : Result (RecordFields Global) BlobFault) → joined [] read ≡ read
none_in_front (Ok fields) = refl
none_in_front (Err f) = refl

pub fields_start : (requirement : FieldRequirement) (bytes : List ℕ) → FieldsLeft requirement (length bytes) [] bytes (record_in requirement bytes)
unfolding FieldsLeft
fields_start requirement bytes = (length bytes, omega arith, none_in_front (record_in requirement bytes))

regroup : (front : RecordFields Global) (field : Option (Value Global)) (read : Result (RecordFields Global) BlobFault) → joined front (read >>= (λ others. Ok (field ∷ others))) ≡ joined (front ++ field ∷ []) read
regroup front field (Ok others) = ap (λ (fields : RecordFields Global). Ok fields) (sym (append_assoc front (field ∷ []) others))
regroup front field (Err f) = refl

pub fields_go_on : (requirement : FieldRequirement) (total : ℕ) (front : RecordFields Global) (rest after : List ℕ) (field : Option (Value Global)) (all : Result (RecordFields Global) BlobFault)
    → 1 ≤ length rest → field_at total requirement rest ≡ Ok (field, after) → length after < length rest → FieldsLeft requirement total front rest all → FieldsLeft requirement total (front ++ field ∷ []) after all
unfolding FieldsLeft
fields_go_on requirement total front rest after field all some read less (zero, le, e) = absurd (omega arith)
fields_go_on requirement total front rest after field all some read less (suc most, le, e) =
    let step : joined front (fields_at requirement (suc most) total rest) ≡ joined (front ++ field ∷ []) (fields_at requirement most total after) =
    rw (one_more requirement most total rest some, read) (regroup front field (fields_at requirement most total after)) in
    (most, omega arith, sym step ∙ e)

pub fields_fail : (requirement : FieldRequirement) (total : ℕ) (front : RecordFields Global) (rest : List ℕ) (f : BlobFault) (all : Result (RecordFields Global) BlobFault)
    → 1 ≤ length rest → field_at {A = Global} total requirement rest ≡ Err f → FieldsLeft requirement total front rest all → all ≡ Err f
unfolding FieldsLeft
fields_fail requirement total front rest f all some read (zero, le, e) = absurd (omega arith)
fields_fail requirement total front rest f all some read (suc most, le, e) =
    let step : joined front (fields_at requirement (suc most) total rest) ≡ Err f = rw (one_more requirement most total rest some, read) refl in
    sym e ∙ step

pub fields_end : (requirement : FieldRequirement) (total : ℕ) (front : RecordFields Global) (rest : List ℕ) (all : Result (RecordFields Global) BlobFault) → length rest ≡ 0 → FieldsLeft requirement total front rest all → all ≡ Ok front
unfolding FieldsLeft
fields_end requirement total front [] all none (most, le, e) = sym e ∙ ap (joined front) (no_more requirement most total) ∙ ap (λ (fields : RecordFields Global). Ok fields) (append-nil front)
fields_end requirement total front (byte ∷ rest) all none left = absurd (omega arith)

-- ---- what was read

-- the first field, and the others
pub first_and_others : (requirement : FieldRequirement) (most total : ℕ) (bytes : List ℕ) (fields : RecordFields Global) → 1 ≤ length bytes → fields_at requirement (suc most) total bytes ≡ Ok fields
    → (x : Option (Value Global) × List ℕ) × (others : RecordFields Global) × (field_at total requirement bytes ≡ Ok x) × (fields_at requirement most total x.1 ≡ Ok others) × (x.0 ∷ others ≡ fields)
first_and_others requirement most total bytes fields some read =
    let b = bind_ok (field_at {A = Global} total requirement bytes) (λ field. fields_at requirement most total field.1 >>= (λ others. Ok (field.0 ∷ others))) fields (sym (one_more requirement most total bytes some) ∙ read) in
    let c = bind_ok (fields_at requirement most total b.0.1) (λ others. Ok (b.0.0 ∷ others)) fields b.2 in
    (b.0, c.0, b.1, c.1, ok_is (b.0.0 ∷ c.0) fields c.2)

none-is : (requirement : FieldRequirement) (most total : ℕ) (fields : RecordFields Global) → fields_at requirement most total [] ≡ Ok fields → [] ≡ fields
none-is requirement most total fields read = ok_is [] fields (sym (no_more requirement most total) ∙ read)

-- the requirement is met, by a value within its limits
abbrev pub IsWhole : FieldRequirement → Option (Value Global) → Type 0
IsWhole requirement field = (satisfies requirement field ≡ true) × IfSome field IsValue

-- the bytes spell the fields, each of which is whole
abbrev pub AreSpelled : FieldRequirement → RecordFields Global → List ℕ → Type 0
AreSpelled requirement fields bytes = (bytes ≡ record_bytes fields) × AllByRecursion (IsWhole requirement) fields

fields_spelled : (requirement : FieldRequirement) (most total : ℕ) (bytes : List ℕ) (fields : RecordFields Global) → IsTrue (has_byte requirement) → AreLow bytes → length bytes ≤ most → fields_at requirement most total bytes ≡ Ok fields → AreSpelled requirement fields bytes
fields_spelled requirement zero total [] fields is low le read = subst (λ f. AreSpelled requirement f []) (none-is requirement zero total fields read) (refl, tt)
fields_spelled requirement zero total (byte ∷ bytes) fields is low le read = absurd (omega arith)
fields_spelled requirement (suc most) total [] fields is low le read = subst (λ f. AreSpelled requirement f []) (none-is requirement (suc most) total fields read) (refl, tt)
fields_spelled requirement (suc most) total (byte ∷ bytes) fields is low le read =
    let (x, others, first, more, made) = first_and_others requirement most total (byte ∷ bytes) fields (omega arith) read in
    let spelled = parts requirement total (byte ∷ bytes) x is low first in
    let fewer = shorter requirement total (byte ∷ bytes) x is low first in
    let behind = fields_spelled requirement most total x.1 others is (low_behind (byte ∷ bytes) (field_bytes x.0) x.1 spelled low) (omega (arith, fewer)) more in
    let whole : IsWhole requirement x.0 = (field_meets total requirement (byte ∷ bytes) x first, (field_spelled total requirement (byte ∷ bytes) x low first).1) in
    subst (λ f. AreSpelled requirement f (byte ∷ bytes)) made (spelled ∙ ap (λ (b : List ℕ). field_bytes x.0 ++ b) behind.0, (whole, behind.1))

fields_fit : (requirement : FieldRequirement) (fields : RecordFields Global) → AllByRecursion (IsWhole requirement) fields → AreFields fields
fields_fit requirement [] whole = tt
fields_fit requirement (field ∷ fields) whole = (whole.0.1, fields_fit requirement fields whole.1)

pub record_spelled : (requirement : FieldRequirement) (bytes : List ℕ) (fields : RecordFields Global) → IsTrue (has_byte requirement) → AreLow bytes → record_in requirement bytes ≡ Ok fields → AreSpelled requirement fields bytes
record_spelled requirement bytes fields is low read = fields_spelled requirement (length bytes) (length bytes) bytes fields is low (omega arith) read

-- bytes that were read are a record of what was read
pub record_stands : (requirement : FieldRequirement) (bytes : List ℕ) (fields : RecordFields Global) → IsTrue (has_byte requirement) → AreLow bytes → record_in requirement bytes ≡ Ok fields
    → (fields_of bytes ≡ fields) × IsRecord {A = Global} bytes (fields_of bytes)
record_stands requirement bytes fields is low read =
    let spelled = record_spelled requirement bytes fields is low read in
    stored bytes fields (fields_fit requirement fields spelled.1) spelled.0
