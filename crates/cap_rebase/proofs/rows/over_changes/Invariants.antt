use Rattle.std.proofs.Common.{◌≡◌}
use Rattle.std.specs.Prelude.{IfSome, IsTrue, filter}
use Rattle.cap_changes.specs.Entries.{AllFit}
use Rattle.cap_changes.specs.Fits.{change_fits}
use Rattle.cap_rebase.specs.Flag.{are_of_one_row}
use Rattle.cap_rebase.specs.Rebase.{rebased_over}
use Rattle.cap_rebase.proofs.rows.over_changes.Given as goal

-- what is left, over the changes that are left, is what the first is over all of them
abbrev pub invariant-loop-remote : goal.invariant-loop-remote
invariant-loop-remote g l = record {
  over : rebased_over l.schema l.left (filter (are_of_one_row l.schema l.local) l.remote-iterator)
      ≡ rebased_over l.schema l.fn.first (filter (are_of_one_row l.schema l.local) l.fn.remotes);
  fits : IfSome l.left (λ one. IsTrue (change_fits l.schema one));
  fit : AllFit change_fits l.schema l.remote-iterator;
}
