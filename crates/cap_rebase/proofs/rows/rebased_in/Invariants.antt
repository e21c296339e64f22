use Rattle.std.proofs.Common.{◌≡◌, drop}
use Rattle.std.specs.Prelude.{IfSome, IsTrue}
use Rattle.cap_changes.specs.Fits.{change_fits}
use Rattle.cap_rebase.specs.Rebase.{rebased_over}
use Rattle.cap_rebase.specs.Rebaser.{buffered, rebased_in}
use Rattle.cap_rebase.proofs.rows.rebased_in.Given as goal

-- what is left, over the buffers that are left, is what the change is over all of them
abbrev pub invariant-loop-buffer : goal.invariant-loop-buffer
invariant-loop-buffer g l =
    (rebased_over l.group.schema l.left (buffered (drop l.buffer-index l.buffers) l.group l.local) ≡ rebased_in l.buffers l.group l.local)
    × IfSome l.left (λ one. IsTrue (change_fits l.group.schema one))
