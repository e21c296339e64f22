-- The bytes of changes (The Session Extension, "Changeset Format" and "sqlite3session_patchset").
use Rattle.std.specs.Prelude.{ℕ, Bool, true, false, List, ◌∷◌, ◌++◌}
use Rattle.cap_changes.specs.declared.row_change.RowChange.{RowChange}
use Rattle.cap_changes.specs.declared.row_change.RowChange.TheVariants as changed
use Rattle.cap_changes.specs.declared.patch.Patch.{Patch}
use Rattle.cap_changes.specs.declared.patch.Patch.TheVariants as patched
use Rattle.cap_changes.specs.Field.{record_bytes, key_bytes}

-- a flag is one byte, 1 where it is set
abbrev pub flag_byte : Bool → ℕ
flag_byte true = 1
flag_byte false = 0

module _ {A : Type 0} where
  -- the operation, whether the change is indirect, and its records
  abbrev pub change_bytes : RowChange A → List ℕ
  change_bytes (changed.Insert indirect new) = 0x12 ∷ flag_byte indirect ∷ record_bytes new
  change_bytes (changed.Update indirect old new) =
      0x17 ∷ flag_byte indirect ∷ (record_bytes old ++ record_bytes new)
  change_bytes (changed.Delete indirect old) = 0x09 ∷ flag_byte indirect ∷ record_bytes old

  -- of a patchset: an UPDATE has one record, and a DELETE the key fields alone
  abbrev pub patch_bytes : Patch A → List ℕ
  patch_bytes (patched.Insert indirect new) = 0x12 ∷ flag_byte indirect ∷ record_bytes new
  patch_bytes (patched.Update indirect new) = 0x17 ∷ flag_byte indirect ∷ record_bytes new
  patch_bytes (patched.Delete indirect key) = 0x09 ∷ flag_byte indirect ∷ key_bytes key
