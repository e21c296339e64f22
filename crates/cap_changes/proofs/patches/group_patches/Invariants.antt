use Rattle.std.proofs.Common.{◌≡◌, ◌++◌, map}
use Rattle.cap_changes.specs.Entries.{AllFit}
use Rattle.cap_changes.specs.Fits.{change_fits}
use Rattle.cap_changes.specs.Patch.{patch_of}
use Rattle.cap_changes.proofs.patches.group_patches.Given as goal

-- the patches so far, and those of the changes that are left
abbrev pub invariant-loop-change : goal.invariant-loop-change
invariant-loop-change g l = record {
  table : l.patches.table ≡ l.group.table;
  schema : l.patches.schema ≡ l.group.schema;
  made : l.patches.changes ++ map (patch_of l.group.schema) l.change-iterator ≡ map (patch_of l.group.schema) l.group.changes;
  fit : AllFit change_fits l.group.schema l.change-iterator;
}
