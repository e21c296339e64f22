use Rattle.std.proofs.Common.{◌≡◌, take}
use Rattle.cap_session.specs.Recording.{touch_tables}
use Rattle.cap_session.proofs.tables.touch_changed.Given as goal

abbrev pub invariant-loop-change : goal.invariant-loop-change
invariant-loop-change g l = l.tables.entries ≡ touch_tables l.indirect (take l.change-index l.changes) l.initial.tables.entries
