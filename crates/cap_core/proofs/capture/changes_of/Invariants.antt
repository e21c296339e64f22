use Rattle.std.proofs.Common.{◌≡◌, ◌++◌, IsTrue}
use Rattle.cap_core.specs.Capture.{changes_of}
use Rattle.cap_core.specs.CanCapture.{are_own_tables}
use Rattle.cap_core.proofs.capture.changes_of.Given as goal

abbrev pub invariant-loop-name : goal.invariant-loop-name
invariant-loop-name g l =
    (goal.iterator-loop-name g).can_next l.name-iterator
    × (goal.iterator-loop-name g).is_finite l.name-iterator
    × (l.list ++ changes_of l.main l.name-iterator ≡ changes_of l.main l.fn.attached)
    × IsTrue (are_own_tables l.main l.name-iterator)
