-- What is written for a changeset: the inverse, or the patchset.
use Rattle.std.specs.Prelude.{ℕ, List}
use Rattle.cap_changes.specs.Group.{TableChanges}
use Rattle.cap_changes.specs.Invert.{inverse_list_of}
use Rattle.cap_changes.specs.Patch.{patch_list_of}
use Rattle.cap_codec.specs.Changeset.{list_bytes_with}
use Rattle.cap_codec.specs.Patchset.{patch_list_bytes_with}
use Rattle.cap_codec.specs.declared.key_flags.KeyFlags.{KeyFlags}
use Rattle.cap_blob.specs.declared.target.Target.{Target}
use Rattle.cap_blob.specs.declared.target.Target.TheVariants.{Inverse, Patchset}

module _ {A : Type 0} where
  -- the bytes of what a list is converted to
  abbrev pub converted_list : KeyFlags → Target → List (TableChanges A) → List ℕ
  converted_list key_flags Inverse groups = list_bytes_with key_flags (inverse_list_of groups)
  converted_list key_flags Patchset groups = patch_list_bytes_with key_flags (patch_list_of groups)
