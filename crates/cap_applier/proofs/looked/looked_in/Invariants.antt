use Rattle.std.proofs.Common.{◌≡◌, take}
use Rattle.std.specs.Option.{option_copied}
use Rattle.cap_applier.specs.Looked.{looked_in}
use Rattle.cap_applier.proofs.looked.looked_in.Given as goal

abbrev pub invariant-loop-group : goal.invariant-loop-group
invariant-loop-group g l = l.rows.items ≡ looked_in g.C.BlobChange.requested (option_copied l.filter) (take l.group-index l.groups)
