use Rattle.std.proofs.Common.{◌≡◌, drop}
use Rattle.cap_changes.proofs.record_ref.RecordRef.get.Given as goal

abbrev pub invariant-loop-passed : goal.invariant-loop-passed
invariant-loop-passed g l = l.fields ≡ drop l.passed l.fn.self
