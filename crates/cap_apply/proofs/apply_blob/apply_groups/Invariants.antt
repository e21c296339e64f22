use Rattle.std.proofs.Common.{◌≡◌, drop, map}
use Rattle.cap_apply.proofs.Common.{groups_applied, requested_in}
use Rattle.cap_apply.proofs.apply_blob.apply_groups.Given as goal

-- the groups that are left give what all of them give
abbrev pub invariant-loop-place : goal.invariant-loop-place
invariant-loop-place g l =
    groups_applied l.policy l.place l.number (map (requested_in g.C.BlobChange.requested) (drop l.place l.groups)) l.applied
    ≡ groups_applied l.policy 0 0 (map (requested_in g.C.BlobChange.requested) l.groups) l.fn.applied
