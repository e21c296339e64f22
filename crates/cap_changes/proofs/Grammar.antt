-- The grammar of a change, of a changeset and of a patchset alike: an operation byte, the indirect flag, and the
-- records of the operation.
use Rattle.std.proofs.Common.{◌≡◌, ℕ, Bool, true, false, ◌&&◌, List, [], ◌∷◌, ◌++◌, IsTrue, Result, Ok, Err, refl, sym, ap, subst, ◌∙◌, append_assoc, ◌≤◌, length, length-append, take, drop, take_at, drop_at, Option, IfSome, arith, ◌==◌, append-nil, if◌then◌else◌}
use Rattle.std.proofs.lemmas.Bool.{and_parts, and_from}
use Rattle.cap_field.specs.declared.fault.BlobFault.{BlobFault}
use Rattle.cap_field.specs.Reading.{◌>>=◌, byte_at, Reads}
use Rattle.cap_field.proofs.Binds.{bind_ok, ok_is}
use Rattle.cap_field.proofs.Spelled.{AreLow, low_behind}
use Rattle.cap_changes.specs.ChangeBytes.{flag_byte, change_bytes, patch_bytes}
use Rattle.cap_changes.specs.ChangeReading.{is_set, patch_kind, change_at, patch_at, stored_change, stored_patch, behind}
use Rattle.cap_changes.specs.Field.{field_bytes, record_bytes, key_bytes}
use Rattle.cap_changes.specs.FieldRecord.{RecordFields}
use Rattle.cap_changes.specs.Fits.{change_fits, patch_fits}
use Rattle.cap_changes.specs.HasValues.{AreValues, HasValues, PatchHasValues}
use Rattle.cap_changes.specs.Operation.{operation_byte, is_operation}
use Rattle.cap_changes.specs.RecordReading.{record_at, value_in}
use Rattle.cap_changes.specs.Requirements.{requirements, new_requirements, requirement_of, satisfies, satisfy}
use Rattle.cap_changes.specs.Spelling.{SpellsOperation, SpellsRecords, SpellsPatchRecord}
use Rattle.cap_changes.specs.declared.operation.Operation.{Operation}
use Rattle.cap_changes.specs.declared.operation.Operation.TheVariants as operations
use Rattle.cap_changes.specs.declared.record_kind.RecordKind.{RecordKind}
use Rattle.cap_changes.specs.declared.record_kind.RecordKind.TheVariants.{Full, Keyed}
use Rattle.cap_changes.specs.declared.row_change.RowChange.{RowChange}
use Rattle.cap_changes.specs.declared.row_change.RowChange.TheVariants as changed
use Rattle.cap_changes.specs.declared.patch.Patch.{Patch}
use Rattle.cap_changes.specs.declared.patch.Patch.TheVariants as patched
use Rattle.cap_changes.proofs.FitLemmas.{record_meets}
use Rattle.cap_changes.proofs.FieldAgain.{written, kind_asked, new_asked, asked_again}
use Rattle.cap_changes.proofs.Spelled.{as_values}
use Rattle.cap_changes.specs.Stored.{normal, IsEntry, IsPassed}
use Rattle.std.specs.Prelude.{IfOk}
use Rattle.std.specs.Cmp.Lexicographic.{as_long}
use Rattle.std.proofs.lemmas.Grind.{flat_map-append}
use Rattle.std.proofs.lemmas.List.{length-map}
use Rattle.std.proofs.lemmas.List.Elements.{All-append}
use Rattle.cap_value.specs.declared.value.Value.{Value}
use Rattle.cap_value.specs.Value.{IsValue}
use Rattle.cap_changes.proofs.PassLemmas.{read_of}
use Rattle.cap_changes.specs.Record.{fields_of, keys_of, IsRecord, IsKeyRecord}
use Rattle.cap_changes.proofs.StoredRecord.{stored, stored_key}
use Rattle.cap_changes.proofs.ValueLemmas.{each_of}

-- one record of a kind, or the old record of an UPDATE and the new one, whose requirements depend on it
pub data Form : Type 0 where
  one : RecordKind → Form
  both : Form

module _ (A : Type 0) where
  abbrev pub Records : Form → Type 0
  Records (one record_kind) = RecordFields A
  Records both = RecordFields A × RecordFields A

  abbrev pub records_fit : (form : Form) → List Bool → Records form → Bool
  records_fit (one record_kind) flags fields = satisfy (requirements record_kind flags) fields
  records_fit both flags records = satisfy (requirements Keyed flags) records.0 && satisfy (new_requirements flags records.0) records.1

  abbrev pub HaveValues : (form : Form) → Records form → Type 0
  HaveValues (one record_kind) fields = AreValues fields
  HaveValues both records = AreValues records.0 × AreValues records.1

  abbrev pub records_bytes : (form : Form) → Records form → List ℕ
  records_bytes (one record_kind) fields = written record_kind fields
  records_bytes both records = record_bytes records.0 ++ record_bytes records.1

  abbrev pub beside : RecordFields A → Result (RecordFields A × List ℕ) BlobFault → Result ((RecordFields A × RecordFields A) × List ℕ) BlobFault
  beside old new = new >>= (λ x. Ok ((old, x.0), x.1))

  abbrev pub records_at : (form : Form) → ℕ → List Bool → List ℕ → Result (Records form × List ℕ) BlobFault
  records_at (one record_kind) total flags bytes = record_at total (requirements record_kind flags) bytes
  records_at both total flags bytes = record_at total (requirements Keyed flags) bytes >>= (λ old. beside old.0 (record_at total (new_requirements flags old.0) old.1))

  -- ---- records are read as what their bytes spell, and what was read is spelled by the bytes

  pub records_again : (form : Form) (total : ℕ) (flags : List Bool) (records : Records form) (rest : List ℕ) → records_fit form flags records ≡ true → HaveValues form records
      → records_at form total flags (records_bytes form records ++ rest) ≡ Ok (records, rest)
  records_again (one record_kind) total flags fields rest met values =
      asked_again total (requirements record_kind flags) fields (written record_kind fields) rest met values (kind_asked record_kind flags fields met)
  records_again both total flags (old, new) rest met values =
      let parts = and_parts (satisfy (requirements Keyed flags) old) (satisfy (new_requirements flags old) new) met in
      rw (
        append_assoc (record_bytes old) (record_bytes new) rest,
        asked_again total (requirements Keyed flags) old (record_bytes old) (record_bytes new ++ rest) parts.0 values.0 (kind_asked Keyed flags old parts.0),
        asked_again total (new_requirements flags old) new (record_bytes new) rest parts.1 values.1 (new_asked flags old new parts.1),
      ) refl

  -- what was read has the fields that are required, which are values
  abbrev pub AreSpelled : (form : Form) → List Bool → List ℕ → Records form × List ℕ → Type 0
  AreSpelled form flags bytes x = (records_fit form flags x.0 ≡ true) × HaveValues form x.0 × (bytes ≡ records_bytes form x.0 ++ x.1)

  pub records_spelled : (form : Form) (total : ℕ) (flags : List Bool) (bytes : List ℕ) (x : Records form × List ℕ) → AreLow bytes → records_at form total flags bytes ≡ Ok x → AreSpelled form flags bytes x
  records_spelled (one record_kind) total flags bytes x low e =
      let met = record_meets total (requirements record_kind flags) bytes x e in
      let is = as_values total (requirements record_kind flags) bytes x (written record_kind x.0) low e (kind_asked record_kind flags x.0 met) in
      (met, is.0, is.1)
  records_spelled both total flags bytes x low e =
      let old = bind_ok (record_at total (requirements Keyed flags) bytes) (λ old. beside old.0 (record_at total (new_requirements flags old.0) old.1)) x e in
      let new = bind_ok (record_at total (new_requirements flags old.0.0) old.0.1) (λ new. Ok ((old.0.0, new.0), new.1)) x old.2 in
      let met = record_meets total (requirements Keyed flags) bytes old.0 old.1 in
      let met' = record_meets total (new_requirements flags old.0.0) old.0.1 new.0 new.1 in
      let first = as_values total (requirements Keyed flags) bytes old.0 (record_bytes old.0.0) low old.1 (kind_asked Keyed flags old.0.0 met) in
      let second = as_values total (new_requirements flags old.0.0) old.0.1 new.0 (record_bytes new.0.0) (low_behind bytes (record_bytes old.0.0) old.0.1 first.1 low) new.1 (new_asked flags old.0.0 new.0.0 met') in
      subst (AreSpelled both flags bytes) (ok_is ((old.0.0, new.0.0), new.0.1) x new.2) (
        and_from (satisfy (requirements Keyed flags) old.0.0) _ met met',
        (first.0, second.0),
        first.1 ∙ ap (λ (b : List ℕ). record_bytes old.0.0 ++ b) second.1 ∙ sym (append_assoc (record_bytes old.0.0) (record_bytes new.0.0) new.0.1),
      )

-- ---- a change by its records

pub flag_again : (b : Bool) → is_set (flag_byte b) ≡ b
flag_again b = grind arith

module _ (A : Type 0) {C : Type 0} (fits : List Bool → C → Bool) (values : C → Type 0) (bytes_of : C → List ℕ) (spells : C → List ℕ → Type 0) where
  -- a change has this operation, this flag and these records
  pub record Has (operation : Operation) (indirect : Bool) (form : Form) (records : Records A form) (change : C) : Type 0 where
    pub fit : (flags : List Bool) → fits flags change ≡ records_fit A form flags records
    pub valued : HaveValues A form records → values change
    pub have_values : values change → HaveValues A form records
    pub bytes : bytes_of change ≡ operation_byte operation ∷ flag_byte indirect ∷ records_bytes A form records
    pub spelled : (given : List ℕ) → spells change given → SpellsOperation (operation_byte operation) indirect (records_bytes A form records) given
    pub spelling : (given : List ℕ) → SpellsOperation (operation_byte operation) indirect (records_bytes A form records) given → spells change given

  -- the changes of one kind of blob: which records each operation has, and the change of them
  pub record Grammar (one_at : ℕ → List Bool → ℕ → List ℕ → Result (C × List ℕ) BlobFault) (stored : List Bool → List ℕ → C) : Type 0 where
    pub form : Operation → Form
    pub make : (operation : Operation) → Bool → Records A (form operation) → C
    pub has : (operation : Operation) (indirect : Bool) (records : Records A (form operation)) → Has operation indirect (form operation) records (make operation indirect records)
    pub each : (change : C) → (operation : Operation) × (indirect : Bool) × (records : Records A (form operation)) × (make operation indirect records ≡ change)
    pub read : (total : ℕ) (flags : List Bool) (operation : Operation) (bytes : List ℕ)
        → one_at total flags (operation_byte operation) bytes ≡ byte_at total bytes >>= (λ flag. records_at A (form operation) total flags flag.1 >>= (λ x. Ok (make operation (is_set flag.0) x.0, x.1)))
    pub other : C
    pub keeps : (flags : List Bool) (op : ℕ) (bytes : List ℕ) → stored flags (op ∷ bytes) ≡ value_in other (one_at 0 flags op bytes)

-- the operation of a byte that is one
abbrev known_by : ℕ → Operation
known_by op = if op == 0x12 then operations.Insert else (if op == 0x17 then operations.Update else operations.Delete)

-- an operation byte and these bytes begin with one, and with what is left
abbrev pub Begins : {X : Type 0} → (X → List ℕ → Type 0) → ℕ → List ℕ → X × List ℕ → Type 0
Begins spells op bytes x = (front : List ℕ) × (bytes ≡ front ++ x.1) × spells x.0 (op ∷ front)

module _ {A C : Type 0} {fits : List Bool → C → Bool} {values : C → Type 0} {bytes_of : C → List ℕ} {spells : C → List ℕ → Type 0}
    {one_at : ℕ → List Bool → ℕ → List ℕ → Result (C × List ℕ) BlobFault} {stored : List Bool → List ℕ → C} (g : Grammar A fits values bytes_of spells one_at stored) where
  -- what holds of each change that is made holds of every one
  pub by_records : (P : C → Type 0) → ((operation : Operation) (indirect : Bool) (records : Records A (g.form operation)) → P (g.make operation indirect records)) → (change : C) → P change
  by_records P made change = let (operation, indirect, records, is) = g.each change in subst P is (made operation indirect records)

  abbrev pub Spells : List Bool → C → List ℕ → Type 0
  Spells flags change given = IsTrue (fits flags change) × values change × spells change given

  pub written_so : (flags : List Bool) (change : C) → IsTrue (fits flags change) → values change → Spells flags change (bytes_of change)
  written_so flags change fit valued =
      (fit, valued, by_records (λ c. spells c (bytes_of c)) (λ operation indirect records. let is = g.has operation indirect records in is.spelling _ (flag_byte indirect, flag_again indirect, is.bytes)) change)

  -- ---- read again, whatever follows

  abbrev Again : ℕ → List Bool → C → List ℕ → Type 0
  Again total flags change front =
      (op : ℕ) × (behind : List ℕ) × (front ≡ op ∷ behind) × (is_operation op ≡ true) × ((rest : List ℕ) → one_at total flags op (behind ++ rest) ≡ Ok (change, rest))

  pub again : (total : ℕ) (flags : List Bool) (change : C) (front : List ℕ) → Spells flags change front → Again total flags change front
  again total flags change front = by_records (λ c. Spells flags c front → Again total flags c front) (λ operation indirect records so.
      let is = g.has operation indirect records in
      let (flag, marked, parts) = is.spelled front so.2 in (
        operation_byte operation,
        flag ∷ records_bytes A (g.form operation) records,
        parts,
        grind arith,
        λ rest.
            g.read total flags operation (flag ∷ (records_bytes A (g.form operation) records ++ rest))
            ∙ rw (records_again A (g.form operation) total flags records rest (sym (is.fit flags) ∙ so.0) (is.have_values so.1), marked) refl,
      )) change

  -- ---- spelled by the bytes that were read

  pub operation_spelled : (total : ℕ) (flags : List Bool) (operation : Operation) (bytes : List ℕ) (x : C × List ℕ) → AreLow bytes → one_at total flags (operation_byte operation) bytes ≡ Ok x → Begins (Spells flags) (operation_byte operation) bytes x
  operation_spelled total flags operation [] x low e = absurd (cc (sym (g.read total flags operation []) ∙ e))
  operation_spelled total flags operation (flag ∷ bytes) x low e =
      let read = bind_ok (records_at A (g.form operation) total flags bytes) (λ y. Ok (g.make operation (is_set flag) y.0, y.1)) x (sym (g.read total flags operation (flag ∷ bytes)) ∙ e) in
      let is = records_spelled A (g.form operation) total flags bytes read.0 low.1 read.1 in
      let has = g.has operation (is_set flag) read.0.0 in
      subst (Begins (Spells flags) (operation_byte operation) (flag ∷ bytes)) (ok_is (g.make operation (is_set flag) read.0.0, read.0.1) x read.2) (
        flag ∷ records_bytes A (g.form operation) read.0.0,
        ap (λ (b : List ℕ). flag ∷ b) is.2,
        (has.fit flags ∙ is.0, has.valued is.1, has.spelling _ (flag, refl, refl)),
      )

  pub is_spelled : (total : ℕ) (flags : List Bool) (op : ℕ) (bytes : List ℕ) (x : C × List ℕ) → AreLow bytes → is_operation op ≡ true → one_at total flags op bytes ≡ Ok x → Begins (Spells flags) op bytes x
  is_spelled total flags op bytes x low known =
      let is : operation_byte (known_by op) ≡ op = grind arith in
      subst (λ (o : ℕ). one_at total flags o bytes ≡ Ok x → Begins (Spells flags) o bytes x) is (operation_spelled total flags (known_by op) bytes x low)

  -- ---- kept as its bytes

  -- the bytes of a change are of just this one
  pub entry : (flags : List Bool) (change : C) (bytes : List ℕ) → IsTrue (fits flags change) → values change → bytes ≡ bytes_of change → (stored flags bytes ≡ change) × IsEntry fits values bytes_of flags (stored flags bytes) bytes
  entry flags change bytes fit valued spelled =
      let (op, behind, parts, operation, read) = again 0 flags change bytes (rw spelled (written_so flags change fit valued)) in
      let same = ap (stored flags) parts ∙ g.keeps flags op behind ∙ ap (value_in g.other) (ap (one_at 0 flags op) (sym (append-nil behind)) ∙ read []) in
      (same, subst (λ (x : C). IsEntry fits values bytes_of flags x bytes) (sym same) (record { fits = fit; values = valued; spelled = spelled }))

  given_so : (change : C) (op : ℕ) (front : List ℕ) → spells change (op ∷ front) → (normal (op ∷ front) ≡ bytes_of change) × (1 ≤ length front)
  given_so change op front =
      by_records (λ c. spells c (op ∷ front) → (normal (op ∷ front) ≡ bytes_of c) × (1 ≤ length front))
      (λ operation indirect records spelled.
      let is = g.has operation indirect records in
      let (flag, marked, parts) = is.spelled (op ∷ front) spelled in
      let so : normal (op ∷ front) ≡ operation_byte operation ∷ flag_byte indirect ∷ records_bytes A (g.form operation) records = grind (arith, marked, parts) in
      (so ∙ sym is.bytes, grind (arith, parts)))
      change

  -- what was read is passed
  pub passed : (total : ℕ) (flags : List Bool) (operation : Operation) (given : List ℕ) (x : C × List ℕ) → AreLow given → one_at total flags (operation_byte operation) given ≡ Ok x
      → IsPassed fits values bytes_of stored one_at total flags (operation_byte operation) given x.1
  passed total flags operation given x low read =
      let (front, parts, spelled) = operation_spelled total flags operation given x low read in
      let so = given_so x.0 (operation_byte operation) front spelled.2 in
      let is = entry flags x.0 (normal (operation_byte operation ∷ front)) spelled.0 spelled.1 so.0 in
      record {
        front = front;
        parts = parts;
        some = so.1;
        read = read ∙ ap (λ (change : C). Ok (change, x.1)) (sym is.0);
        entry = is.1;
      }

  -- ---- passed over

  pub passes : {X : Type 0} (view : X → List ℕ) (result : Result X BlobFault) (total : ℕ) (flags : List Bool) (operation : Operation) (given : List ℕ) → AreLow given → Reads view result (behind (one_at total flags (operation_byte operation) given))
      → IfOk result (λ rest. IsPassed fits values bytes_of stored one_at total flags (operation_byte operation) given (view rest))
  passes view (Ok rest) total flags operation given low reads =
      let (x, found) = read_of (one_at total flags (operation_byte operation) given) (view rest) reads in passed total flags operation given (x, view rest) low found
  passes view (Err f) total flags operation given low reads = tt

abbrev pub change_form : Operation → Form
change_form operations.Insert = one Full
change_form operations.Update = both
change_form operations.Delete = one Full

module _ {A : Type 0} where
  -- ---- of a changeset

  abbrev pub change_of : (operation : Operation) → Bool → Records A (change_form operation) → RowChange A
  change_of operations.Insert indirect new = changed.Insert indirect new
  change_of operations.Update indirect records = changed.Update indirect records.0 records.1
  change_of operations.Delete indirect old = changed.Delete indirect old

  pub change_has : (operation : Operation) (indirect : Bool) (records : Records A (change_form operation)) → Has A change_fits HasValues change_bytes SpellsRecords operation indirect (change_form operation) records (change_of operation indirect records)
  change_has operations.Insert indirect new = record { fit = λ flags. refl; valued = λ v. v; have_values = λ v. v; bytes = refl; spelled = λ given s. s; spelling = λ given s. s }
  change_has operations.Update indirect records = record { fit = λ flags. refl; valued = λ v. v; have_values = λ v. v; bytes = refl; spelled = λ given s. s; spelling = λ given s. s }
  change_has operations.Delete indirect old = record { fit = λ flags. refl; valued = λ v. v; have_values = λ v. v; bytes = refl; spelled = λ given s. s; spelling = λ given s. s }

  pub change_each : (change : RowChange A) → (operation : Operation) × (indirect : Bool) × (records : Records A (change_form operation)) × (change_of operation indirect records ≡ change)
  change_each (changed.Insert indirect new) = (operations.Insert, indirect, new, refl)
  change_each (changed.Update indirect old new) = (operations.Update, indirect, (old, new), refl)
  change_each (changed.Delete indirect old) = (operations.Delete, indirect, old, refl)

  pub change_read : (total : ℕ) (flags : List Bool) (operation : Operation) (bytes : List ℕ)
      → change_at total flags (operation_byte operation) bytes ≡ byte_at total bytes >>= (λ flag. records_at A (change_form operation) total flags flag.1 >>= (λ x. Ok (change_of operation (is_set flag.0) x.0, x.1)))
  unfolding change_at
  change_read total flags operations.Update (flag ∷ bytes) = grind arith
  change_read total flags operation bytes = refl

  pub change_keeps : (flags : List Bool) (op : ℕ) (bytes : List ℕ) → stored_change {A = A} flags (op ∷ bytes) ≡ value_in (changed.Delete false []) (change_at 0 flags op bytes)
  unfolding stored_change
  change_keeps flags op bytes = refl

  abbrev pub changes : Grammar A (change_fits {A = A}) HasValues change_bytes SpellsRecords change_at stored_change
  changes = record { form = change_form; make = change_of; has = change_has; each = change_each; read = change_read; other = changed.Delete false []; keeps = change_keeps }

  -- ---- of a patchset

  abbrev pub patch_of : Operation → Bool → RecordFields A → Patch A
  patch_of operations.Insert indirect new = patched.Insert indirect new
  patch_of operations.Update indirect new = patched.Update indirect new
  patch_of operations.Delete indirect key = patched.Delete indirect key

  pub patch_has : (operation : Operation) (indirect : Bool) (fields : RecordFields A) → Has A patch_fits PatchHasValues patch_bytes SpellsPatchRecord operation indirect (one (patch_kind operation)) fields (patch_of operation indirect fields)
  patch_has operations.Insert indirect new = record { fit = λ flags. refl; valued = λ v. v; have_values = λ v. v; bytes = refl; spelled = λ given s. s; spelling = λ given s. s }
  patch_has operations.Update indirect new = record { fit = λ flags. refl; valued = λ v. v; have_values = λ v. v; bytes = refl; spelled = λ given s. s; spelling = λ given s. s }
  patch_has operations.Delete indirect key = record { fit = λ flags. refl; valued = λ v. v; have_values = λ v. v; bytes = refl; spelled = λ given s. s; spelling = λ given s. s }

  pub patch_each : (patch : Patch A) → (operation : Operation) × (indirect : Bool) × (fields : RecordFields A) × (patch_of operation indirect fields ≡ patch)
  patch_each (patched.Insert indirect new) = (operations.Insert, indirect, new, refl)
  patch_each (patched.Update indirect new) = (operations.Update, indirect, new, refl)
  patch_each (patched.Delete indirect key) = (operations.Delete, indirect, key, refl)

  pub patch_read : (total : ℕ) (flags : List Bool) (operation : Operation) (bytes : List ℕ)
      → patch_at total flags (operation_byte operation) bytes ≡ byte_at total bytes >>= (λ flag. record_at total (requirements (patch_kind operation) flags) flag.1 >>= (λ x. Ok (patch_of operation (is_set flag.0) x.0, x.1)))
  unfolding patch_at
  patch_read total flags operations.Insert bytes = refl
  patch_read total flags operations.Update bytes = refl
  patch_read total flags operations.Delete bytes = refl

  pub patch_keeps : (flags : List Bool) (op : ℕ) (bytes : List ℕ) → stored_patch {A = A} flags (op ∷ bytes) ≡ value_in (patched.Delete false []) (patch_at 0 flags op bytes)
  unfolding stored_patch
  patch_keeps flags op bytes = refl

  abbrev pub patches : Grammar A (patch_fits {A = A}) PatchHasValues patch_bytes SpellsPatchRecord patch_at stored_patch
  patches = record { form = λ operation. one (patch_kind operation); make = patch_of; has = patch_has; each = patch_each; read = patch_read; other = patched.Delete false []; keeps = patch_keeps }

-- ---- taken apart

same_parts : (a b : Operation) (i j : Bool) (r s : List ℕ) → operation_byte a ∷ flag_byte i ∷ r ≡ operation_byte b ∷ flag_byte j ∷ s → (a ≡ b) × (i ≡ j) × (r ≡ s)
same_parts a b i j r s e = grind arith

module _ {A : Type 0} (flags : List Bool) (operation : Operation) (indirect : Bool) (records bytes : List ℕ) (parts : bytes ≡ operation_byte operation ∷ flag_byte indirect ∷ records) where
  one_record : (b : Operation) (i : Bool) (fields : RecordFields A) → AreValues fields → bytes ≡ operation_byte b ∷ flag_byte i ∷ record_bytes fields → (indirect ≡ i) × (fields_of records ≡ fields) × IsRecord {A = A} records (fields_of records)
  one_record b i fields values spelled =
      let (op, flag, same) = same_parts operation b indirect i records (record_bytes fields) (sym parts ∙ spelled) in
      let s = stored records fields (each_of fields values) same in (flag, s.0, s.1)

  pub patch_insert : (patch : Patch A) → IsEntry {C = Patch A} patch_fits PatchHasValues patch_bytes flags patch bytes → operation ≡ operations.Insert → IsRecord {A = A} records (fields_of records) × (patched.Insert indirect (fields_of records) ≡ patch)
  patch_insert (patched.Insert i new) is known = let (flag, same, stands) = one_record operations.Insert i new is.values is.spelled in (stands, rw (flag, same) refl)
  patch_insert patch is known = absurd (grind (arith, is.spelled, parts, known))

  pub patch_update : (patch : Patch A) → IsEntry {C = Patch A} patch_fits PatchHasValues patch_bytes flags patch bytes → operation ≡ operations.Update → IsRecord {A = A} records (fields_of records) × (patched.Update indirect (fields_of records) ≡ patch)
  patch_update (patched.Update i new) is known = let (flag, same, stands) = one_record operations.Update i new is.values is.spelled in (stands, rw (flag, same) refl)
  patch_update patch is known = absurd (grind (arith, is.spelled, parts, known))

  pub patch_delete : (patch : Patch A) → IsEntry {C = Patch A} patch_fits PatchHasValues patch_bytes flags patch bytes → operation ≡ operations.Delete → IsKeyRecord {A = A} flags records (keys_of flags records) × (patched.Delete indirect (keys_of flags records) ≡ patch)
  patch_delete (patched.Delete i key) is known =
      let (op, flag, same) = same_parts operation operations.Delete indirect i records (key_bytes key) (sym parts ∙ is.spelled) in
      let s = stored_key flags records key (each_of key is.values) is.fits same in (s.1, rw (flag, s.0) refl)
  patch_delete patch is known = absurd (grind (arith, is.spelled, parts, known))

  pub change_insert : (change : RowChange A) → IsEntry {C = RowChange A} change_fits HasValues change_bytes flags change bytes → operation ≡ operations.Insert → IsRecord {A = A} records (fields_of records) × (changed.Insert indirect (fields_of records) ≡ change)
  change_insert (changed.Insert i new) is known = let (flag, same, stands) = one_record operations.Insert i new is.values is.spelled in (stands, rw (flag, same) refl)
  change_insert change is known = absurd (grind (arith, is.spelled, parts, known))

  pub change_delete : (change : RowChange A) → IsEntry {C = RowChange A} change_fits HasValues change_bytes flags change bytes → operation ≡ operations.Delete → IsRecord {A = A} records (fields_of records) × (changed.Delete indirect (fields_of records) ≡ change)
  change_delete (changed.Delete i old) is known = let (flag, same, stands) = one_record operations.Delete i old is.values is.spelled in (stands, rw (flag, same) refl)
  change_delete change is known = absurd (grind (arith, is.spelled, parts, known))

  -- the records of an UPDATE are one with the fields of both
  pub change_update : (change : RowChange A) → IsEntry {C = RowChange A} change_fits HasValues change_bytes flags change bytes → operation ≡ operations.Update
      → IsRecord {A = A} records (fields_of records) × (length flags ≤ length (fields_of {A = A} records)) × (changed.Update indirect (take (length flags) (fields_of records)) (drop (length flags) (fields_of records)) ≡ change)
  change_update (changed.Update i old new) is known =
      let met = and_parts (satisfy (requirements Keyed flags) old) (satisfy (new_requirements flags old) new) is.fits in
      let wide : length old ≡ length flags = sym (as_long satisfies (requirements Keyed flags) old met.0) ∙ length-map flags (requirement_of Keyed) in
      let (flag, same, stands) = one_record operations.Update i (old ++ new) (All-append (λ (f : Option (Value A)). IfSome f IsValue) old new is.values.0 is.values.1)
      (is.spelled ∙ ap (λ (b : List ℕ). 0x17 ∷ flag_byte i ∷ b) (sym (flat_map-append field_bytes old new))) in
      (stands, rw same (omega (arith, wide, length-append old new)), rw (same, flag, take_at old new (length flags) wide, drop_at old new (length flags) wide) refl)
  change_update change is known = absurd (grind (arith, is.spelled, parts, known))
