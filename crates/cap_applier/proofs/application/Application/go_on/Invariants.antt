use Rattle.cap_applier.specs.Reach.{IsReached}
use Rattle.cap_applier.proofs.application.Application.go_on.Given as goal

-- it came here without a conflict
abbrev pub invariant-loop : goal.invariant-loop
invariant-loop g l = IsReached l.fn.self l.self
