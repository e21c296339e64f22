use Rattle.std.proofs.Common.{◌≡◌, ◌++◌, map, take, drop}
use Rattle.cap_changes.specs.Entries.{AreFitting}
use Rattle.cap_changes.specs.Fits.{change_fits}
use Rattle.cap_changes.specs.Invert.{inverse_of}
use Rattle.cap_changes.specs.Made.{group_of}
use Rattle.cap_changes.proofs.list.ChangeList+A.into_inverse.Given as goal

-- the groups before the index are inverted
abbrev pub invariant-loop-group : goal.invariant-loop-group
invariant-loop-group g l = record {
  fit : AreFitting change_fits l.group-items;
  made : l.group-items ≡ map (group_of inverse_of) (take l.group-index l.fn.self) ++ drop l.group-index l.fn.self;
}
