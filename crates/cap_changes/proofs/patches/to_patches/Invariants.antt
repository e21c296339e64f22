use Rattle.std.proofs.Common.{◌≡◌, take}
use Rattle.cap_changes.specs.Patch.{patch_list_of}
use Rattle.cap_changes.proofs.patches.to_patches.Given as goal

abbrev pub invariant-loop-group : goal.invariant-loop-group
invariant-loop-group g l = l.patches ≡ patch_list_of (take l.group-index l.group-items)
