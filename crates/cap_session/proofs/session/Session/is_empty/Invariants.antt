use Rattle.std.proofs.Common.{◌≡◌}
use Rattle.cap_session.specs.Session.{stored}
use Rattle.cap_session.proofs.session.Session.is_empty.Given as goal

abbrev pub invariant-loop-records : goal.invariant-loop-records
invariant-loop-records g l = stored l.rest ≡ stored l.initial.rest
