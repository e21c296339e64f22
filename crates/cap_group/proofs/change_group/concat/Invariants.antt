use Rattle.std.proofs.Common.{◌≡◌, drop}
use Rattle.cap_group.specs.ChangeGroup.{all_added, empty_group}
use Rattle.cap_group.proofs.change_group.concat.Given as goal

-- the blobs that are left give what all of them give
abbrev pub invariant-loop-blob : goal.invariant-loop-blob
invariant-loop-blob g l = all_added l.group (drop l.blob-index l.blobs) ≡ all_added empty_group l.blobs
