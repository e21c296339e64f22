use Rattle.std.proofs.Common.{◌≡◌, ◌++◌}
use Rattle.cap_codec.specs.Changeset.{list_bytes_with}
use Rattle.cap_core.specs.Capture.{changes_of}
use Rattle.cap_core.proofs.changeset.changeset_of.Given as goal

abbrev pub invariant-loop-name : goal.invariant-loop-name
invariant-loop-name g l =
    (goal.iterator-loop-name g).can_next l.name-iterator
    × (goal.iterator-loop-name g).is_finite l.name-iterator
    × (l.out.items ++ list_bytes_with l.fn.key_flags (changes_of l.main l.name-iterator) ≡ list_bytes_with l.fn.key_flags (changes_of l.main l.fn.attached))
