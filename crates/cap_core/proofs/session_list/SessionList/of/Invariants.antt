use Rattle.std.proofs.Common.{◌≡◌, take}
use Rattle.cap_core.specs.Listed.{listed_sessions}
use Rattle.cap_core.proofs.session_list.SessionList.of.Given as goal

abbrev pub invariant-loop-number : goal.invariant-loop-number
invariant-loop-number g l = l.list.items ≡ listed_sessions (take l.number-index l.live)
