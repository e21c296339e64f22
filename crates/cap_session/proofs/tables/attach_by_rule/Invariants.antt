use Rattle.std.proofs.Common.{◌≡◌, take}
use Rattle.cap_session.specs.Recording.{attach_by_rule}
use Rattle.cap_session.proofs.tables.attach_by_rule.Given as goal

abbrev pub invariant-loop-change : goal.invariant-loop-change
invariant-loop-change g l = l.tables.entries ≡ attach_by_rule l.rule (take l.change-index l.changes) l.initial.tables.entries
