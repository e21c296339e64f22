use Rattle.std.proofs.Common.{◌≡◌, ◌≤◌, ◌+◌, ◌*◌, length}
use Rattle.cap_session.specs.Session.{stored}
use Rattle.cap_session.proofs.session.Session.stored.Given as goal

abbrev pub invariant-loop-records : goal.invariant-loop-records
invariant-loop-records g l =
    (l.count + stored l.rest ≡ stored l.initial.rest)
    × (l.count + length l.rest * 18446744073709551616 ≤ length l.initial.rest * 18446744073709551616)
