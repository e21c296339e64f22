-- The bytes of a patchset (The Session Extension, "sqlite3session_patchset").
use Rattle.std.specs.Prelude.{ℕ, List}
use Rattle.std.specs.List.{flat_map}
use Rattle.cap_changes.specs.ChangeBytes.{patch_bytes}
use Rattle.cap_changes.specs.PatchGroup.{TablePatches}
use Rattle.cap_codec.specs.declared.key_flags.KeyFlags.{KeyFlags}
use Rattle.cap_codec.specs.declared.key_flags.KeyFlags.TheVariants.{Ones}
use Rattle.cap_changes.specs.KindByte.{patchset_kind}
use Rattle.cap_codec.specs.Changeset.{entries_bytes}

module _ {A : Type 0} where
  -- the groups in the list's order
  abbrev pub patch_list_bytes_with : KeyFlags → List (TablePatches A) → List ℕ
  patch_list_bytes_with key_flags groups = flat_map (entries_bytes key_flags patchset_kind patch_bytes) groups

  -- with the key flags of the documentation
  abbrev pub patch_list_bytes : List (TablePatches A) → List ℕ
  patch_list_bytes groups = patch_list_bytes_with Ones groups
