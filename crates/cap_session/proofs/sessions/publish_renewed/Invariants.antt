use Rattle.std.proofs.Common.{◌≡◌, length, map}
use Rattle.cap_session.specs.Delta.{with_parts, with_tables}
use Rattle.cap_session.proofs.sessions.publish_renewed.Given as goal

abbrev pub invariant-loop-place : goal.invariant-loop-place
invariant-loop-place g l =
    with_parts with_tables l.sessions.items (map (λ own. (own.0, own.1.entries)) l.renewed.items)
    ≡ with_parts with_tables l.initial.sessions.items (map (λ own. (own.0, own.1.entries)) l.initial.renewed.items)

abbrev pub decreases-loop-place : goal.decreases-loop-place
decreases-loop-place g l = length l.renewed.items
