use Rattle.std.proofs.Common.{◌≡◌, take}
use Rattle.cap_session.specs.Code.Added.{AreReserved}
use Rattle.cap_session.specs.Recording.{touch_tables}
use Rattle.cap_session.proofs.delta.reserve_touches.Given as goal

abbrev pub invariant-loop-change : goal.invariant-loop-change
invariant-loop-change g l =
    (l.tables.entries ≡ l.initial.tables.entries)
    × AreReserved l.session l.initial.tables.entries (touch_tables l.indirect (take l.change-index l.changes) l.initial.tables.entries) l.initial.touched.items l.touched.items
