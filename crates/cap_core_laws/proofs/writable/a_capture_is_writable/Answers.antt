use Rattle.std.proofs.Common.{subst}
use Rattle.cap_changes.specs.Patch.{patch_list_of}
use Rattle.cap_codec.specs.Writable.{IsWritable}
use Rattle.cap_codec.specs.declared.read.Contents.TheVariants.{Changes, Patches}
use Rattle.cap_core_laws.proofs.AppliedCaptureLemmas.{patches-writable}
use Rattle.cap_core_laws.proofs.writable.a_capture_is_writable.Goals as goal

pub returns-clause-changeset : goal.returns-clause-changeset
returns-clause-changeset g c = subst (λ list. IsWritable (Changes list)) c.in_ok-changes.ensures c.changes_are_writable.ensures.writable

pub returns-clause-patchset : goal.returns-clause-patchset
returns-clause-patchset g c = subst (λ list. IsWritable (Patches (patch_list_of list))) c.in_ok-changes.ensures (patches-writable c.in_ok-changes.changes c.changes_are_writable.ensures.writable)
