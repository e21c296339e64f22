-- Records that are passed over, field by field.
use Rattle.std.proofs.Common.{arith, ◌≡◌, ℕ, ◌+◌, ◌<◌, ◌≤◌, Bool, false, List, [], ◌∷◌, ◌++◌, length, drop, get_or, Result, Ok, Err, refl, sym, ap, ◌∙◌, add-one, drop-cons}
use Rattle.std.specs.Prelude.{IsOk}
use Rattle.std.proofs.lemmas.List.{drop_all}
use Rattle.cap_field.specs.declared.fault.BlobFault.{BlobFault}
use Rattle.cap_field.specs.Reading.{◌>>=◌}
use Rattle.cap_field.proofs.Binds.{ok_is}
use Rattle.cap_field.proofs.Spelled.{AreLow}
use Rattle.cap_changes.specs.ChangeReading.{behind}
use Rattle.cap_changes.specs.FieldReading.{field_at}
use Rattle.cap_changes.specs.RecordReading.{record_at, old_in}
use Rattle.cap_changes.specs.Requirements.{requirement_of, requirements, new_requirements}
use Rattle.cap_changes.specs.declared.field_requirement.FieldRequirement.TheVariants as required
use Rattle.cap_changes.specs.declared.record_kind.RecordKind.TheVariants.{Keyed}
use Rattle.cap_changes.proofs.FieldAgain.{field_again}
use Rattle.cap_changes.proofs.FieldAgain.{of_keyed}
use Rattle.cap_changes.proofs.Spelled.{field_spelled}

pub ok_of : {X E : Type 0} (read : Result X E) → IsOk read → (x : X) × (read ≡ Ok x)
ok_of (Ok x) is = (x, refl)
ok_of (Err e) is = absurd cc

pub behind_made : {X Y : Type 0} (make : X → Y) (read : Result (X × List ℕ) BlobFault) → behind (read >>= (λ x. Ok (make x.0, x.1))) ≡ behind read
behind_made make read = grind arith

module _ {X : Type 0} where
  pub read_of : (read : Result (X × List ℕ) BlobFault) (rest : List ℕ) → behind read ≡ Ok rest → (x : X) × (read ≡ Ok (x, rest))
  read_of (Ok x) rest e = (x.0, ap (λ (r : List ℕ). Ok (x.0, r)) (ok_is x.1 rest e))
  read_of (Err f) rest e = absurd cc

module _ (A : Type 0) where
  -- ---- the old record of an UPDATE, which is known to be there

  abbrev pub BeginsOld : ℕ → List Bool → List ℕ → Type 0
  BeginsOld total flags bytes = IsOk (record_at {A = A} total (requirements Keyed flags) bytes)

  -- its first field is read as any field is
  pub known_field : (total : ℕ) (key : Bool) (given : List ℕ) → AreLow given → IsOk (field_at {A = A} total (requirement_of Keyed key) given) → field_at {A = A} 0 required.Any given ≡ field_at total (requirement_of Keyed key) given
  known_field total key given low is =
      let x = ok_of (field_at total (requirement_of Keyed key) given) is in
      let spelled = field_spelled total (requirement_of Keyed key) given x.0 low x.1 in
      ap (field_at 0 required.Any) (spelled.0 ∙ ap (λ (b : List ℕ). b ++ x.0.1) (of_keyed key x.0.0)) ∙ field_again 0 required.Any x.0.0 x.0.1 refl spelled.1 ∙ sym x.1

  -- what is left of the new record, by it
  abbrev pub NewLeft : ℕ → List Bool → List ℕ → List ℕ → Result (List ℕ) BlobFault → Type 0
  NewLeft total flags old given all = behind (record_at {A = A} total (new_requirements flags (old_in A total flags old)) given) ≡ all

pub flags-cons : (flags : List Bool) (i : ℕ) → i < length flags → drop i flags ≡ get_or flags i false ∷ drop (i + 1) flags
flags-cons flags i lt = rw (add-one, drop-cons flags i false) refl

pub flags-past : (flags : List Bool) (i : ℕ) → length flags ≤ i → drop i flags ≡ []
flags-past flags i le = drop_all i flags le
