-- The entries of a group as their bytes, one after another.
use Rattle.std.specs.Prelude.{◌≡◌, ℕ, zero, suc, ◌-◌, ◌≤◌, Bool, List, [], ◌∷◌, ◌++◌, length, take, drop, IsTrue, Result, Ok}
use Rattle.cap_field.specs.declared.fault.BlobFault.{BlobFault}
use Rattle.cap_row.specs.Schema.{has_key}
use Rattle.cap_changes.specs.ChangeBytes.{flag_byte}
use Rattle.cap_changes.specs.Operation.{operation_byte}
use Rattle.cap_changes.specs.declared.operation.Operation.{Operation}
use Rattle.cap_changes.specs.ChangeReading.{is_set}

-- the bytes from one place to another
abbrev pub part : ℕ → ℕ → List ℕ → List ℕ
part start end bytes = take (end - start) (drop start bytes)

-- where the last of these ends
abbrev pub end_of : ℕ → List ℕ → ℕ
end_of start [] = start
end_of start (end ∷ ends) = end_of end ends

-- where the one so many places on begins, by where each ends
abbrev pub start_of : ℕ → List ℕ → ℕ → ℕ
start_of start ends zero = start
start_of start [] (suc place) = start
start_of start (end ∷ ends) (suc place) = start_of end ends place

-- the bytes are those of an entry that fits these columns, and whose fields are values
pub record IsEntry {C : Type 0} (fits_in : List Bool → C → Bool) (has_values : C → Type 0)
    (bytes_of : C → List ℕ) (flags : List Bool) (entry : C) (bytes : List ℕ) : Type 0 where
  pub fits : IsTrue (fits_in flags entry)
  pub values : has_values entry
  pub spelled : bytes ≡ bytes_of entry

module _ {C : Type 0} where
  -- the entries that begin at a place and end at these
  abbrev pub entries_of : (List Bool → List ℕ → C) → List Bool → List ℕ → ℕ → List ℕ → List C
  entries_of stored flags bytes start [] = []
  entries_of stored flags bytes start (end ∷ ends) =
      stored flags (part start end bytes) ∷ entries_of stored flags bytes end ends

  -- each of them is one
  abbrev pub AreEntries : (List Bool → C → Bool) → (C → Type 0) → (C → List ℕ) → (List Bool → List ℕ → C) →
      List Bool → List ℕ → ℕ → List ℕ → Type 0
  AreEntries fits_in has_values bytes_of stored flags bytes start [] = start ≤ length bytes
  AreEntries fits_in has_values bytes_of stored flags bytes start (end ∷ ends) =
      (start ≤ end) × (end ≤ length bytes)
      × IsEntry fits_in has_values bytes_of flags (stored flags (part start end bytes)) (part start end bytes)
      × AreEntries fits_in has_values bytes_of stored flags bytes end ends

-- what a group keeps: key flags, a key column among them, and the bytes of its entries, which end at these
-- places
pub record IsKept {C : Type 0} (fits_in : List Bool → C → Bool) (has_values : C → Type 0)
    (bytes_of : C → List ℕ) (stored : List Bool → List ℕ → C) (flags : List Bool)
    (bytes ends : List ℕ) : Type 0 where
  pub keyed : IsTrue (has_key flags)
  pub each : AreEntries fits_in has_values bytes_of stored flags bytes 0 ends
  pub end : end_of 0 ends ≡ length bytes

-- the bytes of an entry, with its indirect flag as it is written
abbrev pub normal : List ℕ → List ℕ
normal [] = []
normal (op ∷ []) = op ∷ []
normal (op ∷ flag ∷ records) = op ∷ flag_byte (is_set flag) ∷ records

-- the given bytes begin with an entry behind its operation byte, and these are left
pub record IsPassed {C : Type 0} (fits_in : List Bool → C → Bool) (has_values : C → Type 0)
    (bytes_of : C → List ℕ) (stored : List Bool → List ℕ → C)
    (one_at : ℕ → List Bool → ℕ → List ℕ → Result (C × List ℕ) BlobFault) (total : ℕ) (flags : List Bool)
    (op : ℕ) (given rest : List ℕ) : Type 0 where
  pub front : List ℕ
  pub parts : given ≡ front ++ rest
  pub some : 1 ≤ length front
  pub read : one_at total flags op given ≡ Ok (stored flags (normal (op ∷ front)), rest)
  pub entry : IsEntry fits_in has_values bytes_of flags (stored flags (normal (op ∷ front)))
      (normal (op ∷ front))

-- the bytes begin with an operation byte and an indirect flag
abbrev pub StartsEntry : List ℕ → Type 0
StartsEntry bytes = (operation : Operation) × (indirect : Bool) × (records : List ℕ)
    × (bytes ≡ operation_byte operation ∷ flag_byte indirect ∷ records)
