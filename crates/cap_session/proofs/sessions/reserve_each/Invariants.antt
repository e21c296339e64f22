use Rattle.std.proofs.Common.{◌≡◌}
use Rattle.cap_session.proofs.AddedLemmas.{AreAdded}
use Rattle.cap_session.proofs.sessions.reserve_each.Given as goal

abbrev pub invariant-loop-place : goal.invariant-loop-place
invariant-loop-place g l = (l.sessions.items ≡ l.initial.sessions.items) × AreAdded l.changes l.quiet l.initial.sessions.items l.place l.delta
