use Rattle.std.proofs.Common.{◌≡◌, drop}
use Rattle.std.specs.Prelude.{IfSome, IsTrue, flat_map}
use Rattle.cap_changes.specs.Fits.{change_fits}
use Rattle.cap_rebase.specs.Rebase.{rebased_over}
use Rattle.cap_rebase.specs.Rebaser.{of_its_row}
use Rattle.cap_rebase.proofs.rows.over_groups.Given as goal

-- what is left, over the groups that are left, is what the first is over all of them
abbrev pub invariant-loop-other : goal.invariant-loop-other
invariant-loop-other g l =
    (rebased_over l.group.schema l.left (flat_map (of_its_row l.group l.local) (drop l.other-index l.groups))
    ≡ rebased_over l.group.schema l.fn.first (flat_map (of_its_row l.group l.local) l.groups))
    × IfSome l.left (λ one. IsTrue (change_fits l.group.schema one))
