use Rattle.std.proofs.Common.{◌≡◌, drop}
use Rattle.cap_txn.specs.Footprint.{first_changed}
use Rattle.cap_txn.proofs.ChangedLemmas.{later_by}
use Rattle.cap_txn.proofs.changed.first_changed.Given as goal

abbrev pub invariant-loop-place : goal.invariant-loop-place
invariant-loop-place g l = first_changed l.base l.now l.items ≡ later_by l.place (first_changed l.base l.now (drop l.place l.items))
