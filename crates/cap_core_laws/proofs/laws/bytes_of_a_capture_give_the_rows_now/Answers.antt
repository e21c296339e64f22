use Rattle.std.proofs.Common.{refl}
use Rattle.cap_changes.specs.Patch.{patch_list_of}
use Rattle.cap_codec.specs.declared.read.Contents.TheVariants.{Changes, Patches}
use Rattle.cap_codec.specs.Writable.{of_patches}
use Rattle.cap_core_laws.proofs.AppliedCaptureLemmas.{changes-read, of_patches-applies, patches-read, read-applies}
use Rattle.cap_core_laws.proofs.laws.bytes_of_a_capture_give_the_rows_now.Goals as goal

pub returns : goal.returns
returns g c =
    let gives = c.a_capture_gives_the_rows_now.ensures in
    let some = c.captures_have_no_empty_group.ensures in
    let alike = c.written_is_read_again.ensures.read in
    record {
      changeset_read = λ past session capture key_flags is writable. changes-read alike key_flags capture.changes (some past session capture is) writable;
      patchset_read = λ past session capture key_flags is writable. patches-read alike key_flags capture.changes (some past session capture is) writable;
      changeset = λ past session capture database policy key_flags blob is writable rise fits holds read.
          let list = capture.changes in
          read-applies policy _ (Changes list) (Changes list) blob _ database _ _
          (changes-read alike key_flags list (some past session capture is) writable) read refl (gives.changeset past session capture database policy is rise fits holds);
      patchset = λ past session capture database policy key_flags blob is writable rise fits holds read.
          let list = capture.changes in
          let patches = patch_list_of list in
          read-applies policy _ (Patches patches) (of_patches patches) blob _ database _ _
          (patches-read alike key_flags list (some past session capture is) writable) read (of_patches-applies database policy patches) (gives.patchset past session capture database policy is rise fits holds);
    }
