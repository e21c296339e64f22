-- The changes of one table in a patchset.
use Rattle.cap_changes.specs.Entries.{TableEntries}
use Rattle.cap_changes.specs.declared.patch.Patch.{Patch}

abbrev pub TablePatches : Type 0 → Type 0
TablePatches A = TableEntries (Patch A)
