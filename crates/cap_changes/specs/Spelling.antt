-- The grammar of changes (The Session Extension, "Changeset Format"): the written form, where any byte but zero
-- is a set indirect flag.
use Rattle.std.specs.Prelude.{◌≡◌, ℕ, Bool, List, [], ◌∷◌, ◌++◌, IsTrue}
use Rattle.cap_changes.specs.ChangeReading.{is_set}
use Rattle.cap_changes.specs.Field.{record_bytes, key_bytes}
use Rattle.cap_changes.specs.Fits.{change_fits, patch_fits}
use Rattle.cap_changes.specs.HasValues.{HasValues, PatchHasValues}
use Rattle.cap_changes.specs.declared.row_change.RowChange.{RowChange}
use Rattle.cap_changes.specs.declared.row_change.RowChange.TheVariants as changed
use Rattle.cap_changes.specs.declared.patch.Patch.{Patch}
use Rattle.cap_changes.specs.declared.patch.Patch.TheVariants as patched

-- the bytes spell the items of the list in order, to the end
abbrev pub SpellsEach : {X : Type 0} → (X → List ℕ → Type 0) → List X → List ℕ → Type 0
SpellsEach one [] bytes = bytes ≡ []
SpellsEach one (x ∷ xs) bytes =
    (front rest : List ℕ) × (bytes ≡ front ++ rest) × one x front × SpellsEach one xs rest

-- a change: an operation byte, the indirect flag, and its records
abbrev pub SpellsOperation : ℕ → Bool → List ℕ → List ℕ → Type 0
SpellsOperation operation indirect records bytes =
    (flag_byte : ℕ) × (is_set flag_byte ≡ indirect) × (bytes ≡ operation ∷ flag_byte ∷ records)

module _ {A : Type 0} where
  -- the operation and the records of a change of a changeset
  abbrev pub SpellsRecords : RowChange A → List ℕ → Type 0
  SpellsRecords (changed.Insert indirect new) bytes = SpellsOperation 0x12 indirect (record_bytes new) bytes
  SpellsRecords (changed.Update indirect old new) bytes =
      SpellsOperation 0x17 indirect (record_bytes old ++ record_bytes new) bytes
  SpellsRecords (changed.Delete indirect old) bytes = SpellsOperation 0x09 indirect (record_bytes old) bytes

  -- exactly the fields that its kind requires are defined, and each is a value
  abbrev pub SpellsChange : List Bool → RowChange A → List ℕ → Type 0
  SpellsChange flags change bytes =
      IsTrue (change_fits flags change) × HasValues change × SpellsRecords change bytes

  -- the same of a patchset
  abbrev pub SpellsPatchRecord : Patch A → List ℕ → Type 0
  SpellsPatchRecord (patched.Insert indirect new) bytes =
      SpellsOperation 0x12 indirect (record_bytes new) bytes
  SpellsPatchRecord (patched.Update indirect new) bytes =
      SpellsOperation 0x17 indirect (record_bytes new) bytes
  SpellsPatchRecord (patched.Delete indirect key) bytes = SpellsOperation 0x09 indirect (key_bytes key) bytes

  abbrev pub SpellsPatch : List Bool → Patch A → List ℕ → Type 0
  SpellsPatch flags patch bytes =
      IsTrue (patch_fits flags patch) × PatchHasValues patch × SpellsPatchRecord patch bytes
