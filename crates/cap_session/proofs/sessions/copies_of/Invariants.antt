use Rattle.std.proofs.Common.{◌≡◌, take}
use Rattle.cap_session.proofs.sessions.copies_of.Given as goal

abbrev pub invariant-loop-session : goal.invariant-loop-session
invariant-loop-session g l = l.copies.items ≡ take l.session-index l.sessions
