use Rattle.std.proofs.Common.{◌≡◌, take}
use Rattle.cap_session.specs.Recording.{attach_by_rule}
use Rattle.cap_session.proofs.tables.is_any_new.Given as goal

abbrev pub invariant-loop-change : goal.invariant-loop-change
invariant-loop-change g l = attach_by_rule l.rule (take l.change-index l.changes) l.tables.entries ≡ l.tables.entries
