use Rattle.std.proofs.Common.{◌≡◌, ◌≤◌, drop, length}
use Rattle.cap_changes.proofs.record_ref.RecordRef.width.Given as goal

abbrev pub invariant-loop-width : goal.invariant-loop-width
invariant-loop-width g l = record { left : l.rest ≡ drop l.width l.self; within : l.width ≤ length l.self }
