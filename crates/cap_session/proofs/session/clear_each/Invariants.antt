use Rattle.std.proofs.Common.{◌≡◌, ◌++◌, drop, length, take}
use Rattle.cap_session.specs.Session.{forget}
use Rattle.cap_session.proofs.session.clear_each.Given as goal

abbrev pub invariant-loop-place : goal.invariant-loop-place
invariant-loop-place g l =
    (l.tables.entries ≡ forget (take l.place l.initial.tables.entries) ++ drop l.place l.initial.tables.entries)
    × (length l.tables.entries ≡ length l.initial.tables.entries)
