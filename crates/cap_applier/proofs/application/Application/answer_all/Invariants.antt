use Rattle.std.proofs.Common.{◌≡◌}
use Rattle.cap_applier.specs.Remaining.{AcceptsAll, remaining}
use Rattle.cap_applier.proofs.application.Application.answer_all.Given as goal

-- the changes that are left give what all of them give
abbrev pub invariant-loop : goal.invariant-loop
invariant-loop g l =
    AcceptsAll l.fn.self.filter → (remaining l.policy l.self ≡ remaining l.policy l.fn.self) × (l.self.filter ≡ l.fn.self.filter)
