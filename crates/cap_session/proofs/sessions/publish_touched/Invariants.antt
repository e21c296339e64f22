use Rattle.std.proofs.Common.{◌≡◌, length}
use Rattle.cap_session.specs.Delta.{with_parts, with_touched}
use Rattle.cap_session.proofs.sessions.publish_touched.Given as goal

abbrev pub invariant-loop-place : goal.invariant-loop-place
invariant-loop-place g l =
    with_parts with_touched l.sessions.items l.touched.items ≡ with_parts with_touched l.initial.sessions.items l.initial.touched.items

abbrev pub decreases-loop-place : goal.decreases-loop-place
decreases-loop-place g l = length l.touched.items
