use Rattle.std.proofs.Common.{◌≡◌}
use Rattle.cap_core.specs.CanCapture.{are_own_tables}
use Rattle.cap_core.proofs.session_changes.can_capture.Given as goal

abbrev pub invariant-loop-name : goal.invariant-loop-name
invariant-loop-name g l =
    (goal.iterator-loop-name g).can_next l.name-iterator
    × (goal.iterator-loop-name g).is_finite l.name-iterator
    × (are_own_tables l.database l.name-iterator ≡ are_own_tables l.database l.session.tables)
